-- What keeps the two slots keeps what the stages of a header change ask for.
use Rattle.std.proofs.Common.{◌≡◌, inl, inr, ⊎_elim, ℕ, zero, suc, ◌+◌, ◌-◌, ◌*◌, ◌<◌, ◌≤◌, List, ap, subst, sym, ◌∙◌, arith}
use Rattle.std.proofs.Common.{length, length-take, take, get_or, Option, Some, None, IfSome}
use Rattle.std.proofs.lemmas.Bool.{cases_lt}
use Rattle.std.proofs.lemmas.List.{get_or-take}
use Rattle.hm_disk.specs.Crash.{MayLeave, Outside, Told}
use Rattle.hm_disk.specs.Disk.{Synced, overwritten}
use Rattle.hm_disk.proofs.CrashLemmas.{is_outside-from, is_outside-is}
use Rattle.hm_disk.proofs.OverwriteLemmas.{get_or-overwritten_in, get_or-overwritten_out, length-overwritten}
use Rattle.hm_types.specs.Told.{BothTell}
use Rattle.hm_disk.specs.Transfer.{TornAll}
use Rattle.hm_header.specs.declared.header.Header.{Header}
use Rattle.hm_header.specs.declared.header.TheConstants.{SLOT_BYTES}
use Rattle.hm_header.specs.Change.{AnyCrash, AreSlotsSettled, HasNextBody, HaveSameSlots, IsClosedBeside, IsCounting}
use Rattle.hm_header.specs.OnDisk.{HasHeader, slot_in}
use Rattle.hm_header.specs.Slots.{IsClosed, SpellsHeader}
use Rattle.hm_header.proofs.ChangeLemmas.{settled-any}
use Rattle.hm_header.proofs.HeaderLemmas.{header-same, held-kept}
use Rattle.hm_header.proofs.SliceLemmas.{slice-same}
use Rattle.hm_header.proofs.StageLemmas.{left-before, torn-leaves}

-- two disks have the same slots
pub record SameSlots (old new : List ℕ) : Type 0 where
  pub size : length new ≡ length old
  pub first : slot_in new 0 ≡ slot_in old 0
  pub second : slot_in new 1 ≡ slot_in old 1

-- that is so where they have the same bytes there
pub same-slots : (old new : List ℕ) → length new ≡ length old
    → ((byte : ℕ) → byte < 2 * SLOT_BYTES → byte < length old → get_or new byte 0 ≡ get_or old byte 0) → SameSlots old new
same-slots old new size same = record {
  size = size;
  first = slice-same old new 0 16384 size (λ i below inside. same (0 + i) (omega (arith, below)) inside);
  second = slice-same old new 16384 32768 size (λ i below inside. same (16384 + i) (omega (arith, below)) inside);
}

slot-either : (old new : List ℕ) (number : ℕ) → SameSlots old new → slot_in new number ≡ slot_in old number
slot-either old new zero same = same.first
slot-either old new (suc number) same = same.second

-- what hangs on the slots and on the size alone
abbrev HangsOnSlots : (List ℕ → Type 0) → Type 0
HangsOnSlots Has = (old new : List ℕ) → SameSlots old new → Has old → Has new

module _ (header : Header) (slot : ℕ) where
  counting-hangs : HangsOnSlots (IsCounting header slot)
  counting-hangs old new same was = header-same old new header slot same.size same.first same.second was

  beside-hangs : HangsOnSlots (IsClosedBeside header slot)
  beside-hangs old new same was = record {
    header_is = counting-hangs old new same was.header_is;
    closed = subst IsClosed (sym (slot-either old new (1 - slot) same)) was.closed;
  }

next-hangs : (header next : Header) (slot : ℕ) → HangsOnSlots (HasNextBody header slot next)
next-hangs header next slot old new same was = record {
  held = held-kept old new header slot same.size (slot-either old new slot same) was.held;
  body = subst (λ (s : List ℕ). SpellsHeader s next) (sym (slot-either old new (1 - slot) same)) was.body;
  header_is = ⊎_elim (λ old_is. inl (counting-hangs header slot old new same old_is))
      (λ next_is. inr (counting-hangs next (1 - slot) old new same next_is)) was.header_is;
}

-- where no unsettled range meets a slot
settled-slots : (Has : List ℕ → Type 0) → HangsOnSlots Has → (t : Told) → AreSlotsSettled t → Has t.bytes → AnyCrash Has t
settled-slots Has hangs t settled has image left =
    hangs t.bytes image (same-slots t.bytes image left.size (λ byte below inside. left.same byte inside (settled byte below))) has

pub settled-counting : (t : Told) (header : Header) (slot : ℕ) → AreSlotsSettled t → IsCounting header slot t.bytes → AnyCrash (IsCounting header slot) t
settled-counting t header slot settled has = settled-slots (IsCounting header slot) (counting-hangs header slot) t settled has

pub settled-beside : (t : Told) (header : Header) (slot : ℕ) → AreSlotsSettled t → IsClosedBeside header slot t.bytes
    → AnyCrash (IsClosedBeside header slot) t
settled-beside t header slot settled has = settled-slots (IsClosedBeside header slot) (beside-hangs header slot) t settled has

pub settled-next : (t : Told) (header next : Header) (slot : ℕ) → AreSlotsSettled t → HasNextBody header slot next t.bytes
    → AnyCrash (HasNextBody header slot next) t
settled-next t header next slot settled has = settled-slots (HasNextBody header slot next) (next-hangs header next slot) t settled has

-- after writes past the slots
past-slots : (Has : List ℕ → Type 0) → HangsOnSlots Has → (old new : Told) (place count : ℕ) → 2 * SLOT_BYTES ≤ place
    → place + count ≤ length old.bytes → TornAll place count old new → AnyCrash Has old → AnyCrash Has new
past-slots Has hangs old new place count past within torn safe image left =
    let b = left-before old.bytes old.unsettled place count image within (torn-leaves place count old new torn image left) in
    hangs b.before image
    (same-slots b.before image b.change.size (λ byte below inside. b.change.same byte inside (inl (omega (arith, below, past)), tt)))
    (safe b.before b.left)

pub past-counting : (old new : Told) (place count : ℕ) (header : Header) (slot : ℕ) → 2 * SLOT_BYTES ≤ place → place + count ≤ length old.bytes
    → TornAll place count old new → AnyCrash (IsCounting header slot) old → AnyCrash (IsCounting header slot) new
past-counting old new place count header slot past within torn safe =
    past-slots (IsCounting header slot) (counting-hangs header slot) old new place count past within torn safe

pub past-beside : (old new : Told) (place count : ℕ) (header : Header) (slot : ℕ) → 2 * SLOT_BYTES ≤ place → place + count ≤ length old.bytes
    → TornAll place count old new → AnyCrash (IsClosedBeside header slot) old → AnyCrash (IsClosedBeside header slot) new
past-beside old new place count header slot past within torn safe =
    past-slots (IsClosedBeside header slot) (beside-hangs header slot) old new place count past within torn safe

pub past-next : (old new : Told) (place count : ℕ) (header next : Header) (slot : ℕ) → 2 * SLOT_BYTES ≤ place → place + count ≤ length old.bytes
    → TornAll place count old new → AnyCrash (HasNextBody header slot next) old → AnyCrash (HasNextBody header slot next) new
past-next old new place count header next slot past within torn safe =
    past-slots (HasNextBody header slot next) (next-hangs header next slot) old new place count past within torn safe

-- what a crash of a disk leaves, another disk with the same slots may leave too, but for the bytes past these
record LeftBeside (old : Told) (image : List ℕ) : Type 0 where
  beside : List ℕ
  left : MayLeave old.bytes old.unsettled beside
  same : SameSlots beside image

left-beside : (old new : Told) (image : List ℕ) → HaveSameSlots old new → MayLeave new.bytes new.unsettled image → LeftBeside old image
left-beside old new image slots left = record {
  beside = other;
  left = record { size = sized; same = each };
  same = same-slots other image (size ∙ sym sized) (λ byte below inside. sym (front byte below (omega (arith, inside, sized))));
}
  where
    bytes : List ℕ
    bytes = take 32768 image

    other : List ℕ
    other = overwritten old.bytes 0 bytes

    size : length image ≡ length old.bytes
    size = left.size ∙ slots.size

    short : length bytes ≤ length old.bytes
    short = omega (arith, length-take 32768 image, size)

    sized : length other ≡ length old.bytes
    sized = length-overwritten old.bytes 0 bytes (omega (arith, short))

    front : (byte : ℕ) → byte < 2 * SLOT_BYTES → byte < length old.bytes → get_or other byte 0 ≡ get_or image byte 0
    front byte below inside =
        let at : byte - 0 ≡ byte = omega arith in
        get_or-overwritten_in old.bytes 0 bytes byte (omega (arith, short)) (omega arith) (omega (arith, length-take 32768 image, size, below, inside))
        ∙ (ap (λ (k : ℕ). get_or bytes k 0) at ∙ get_or-take 32768 image byte 0 below)

    each : (byte : ℕ) → byte < length old.bytes → Outside old.unsettled byte → get_or other byte 0 ≡ get_or old.bytes byte 0
    each byte inside outside =
        ⊎_elim (λ below.
        front byte below inside
        ∙ (left.same byte (omega (arith, inside, slots.size))
        (is_outside-is new.unsettled byte (slots.settled byte below ∙ is_outside-from old.unsettled byte outside))
        ∙ slots.bytes byte below))
        (λ past. get_or-overwritten_out old.bytes 0 bytes byte (omega (arith, short)) inside (inr (omega (arith, length-take 32768 image, past))))
        (cases_lt byte (2 * SLOT_BYTES))

same-left : (Has : List ℕ → Type 0) → HangsOnSlots Has → (old new : Told) → HaveSameSlots old new → AnyCrash Has old → AnyCrash Has new
same-left Has hangs old new slots safe image left =
    let b = left-beside old new image slots left in hangs b.beside image b.same (safe b.beside b.left)

pub same-counting : (old new : Told) (header : Header) (slot : ℕ) → HaveSameSlots old new → AnyCrash (IsCounting header slot) old
    → AnyCrash (IsCounting header slot) new
same-counting old new header slot slots safe = same-left (IsCounting header slot) (counting-hangs header slot) old new slots safe

pub same-beside : (old new : Told) (header : Header) (slot : ℕ) → HaveSameSlots old new → AnyCrash (IsClosedBeside header slot) old
    → AnyCrash (IsClosedBeside header slot) new
same-beside old new header slot slots safe = same-left (IsClosedBeside header slot) (beside-hangs header slot) old new slots safe

pub same-next : (old new : Told) (header next : Header) (slot : ℕ) → HaveSameSlots old new → AnyCrash (HasNextBody header slot next) old
    → AnyCrash (HasNextBody header slot next) new
same-next old new header next slot slots safe = same-left (HasNextBody header slot next) (next-hangs header next slot) old new slots safe

-- after a sync
pub synced-counting : (old new told : Option Told) (header : Header) (slot : ℕ) → BothTell old new Synced → told ≡ new
    → IfSome new (λ t. HasHeader t.bytes header slot) → IfSome told (AnyCrash (IsCounting header slot))
synced-counting old new told header slot synced same chosen =
    subst (λ (o : Option Told). IfSome o (AnyCrash (IsCounting header slot))) (sym same) (settled old new synced chosen)
  where
    settled : (old new : Option Told) → BothTell old new Synced → IfSome new (λ t. HasHeader t.bytes header slot)
        → IfSome new (AnyCrash (IsCounting header slot))
    settled None None synced chosen = tt
    settled (Some s) (Some t) synced chosen = settled-any (IsCounting header slot) t synced.unsettled_are chosen
    settled None (Some t) synced chosen = absurd synced
    settled (Some s) None synced chosen = tt
