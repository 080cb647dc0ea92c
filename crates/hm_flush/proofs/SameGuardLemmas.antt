-- What keeps the guarded bytes keeps the guard.
use Rattle.std.proofs.Common.{◌≡◌, ◌⊎◌, inl, inr, ⊎_elim, ℕ, zero, suc, ◌+◌, ◌*◌, ◌<◌, ◌≤◌, Bool, true, false, List, [], ◌∷◌, length, get_or}
use Rattle.std.proofs.Common.{slice_index, refl, sym, ◌∙◌, ap, subst, arith, if◌then◌else◌}
use Rattle.hm_disk.specs.Crash.{Told, MayLeave, Outside, is_outside}
use Rattle.hm_disk.proofs.CrashLemmas.{is_outside-from, is_outside-is}
use Rattle.hm_fields.specs.Pages.{PageMap}
use Rattle.hm_header.specs.declared.header.Header.{Header}
use Rattle.hm_header.specs.declared.header.TheConstants.{SLOT_BYTES}
use Rattle.hm_header.specs.Change.{AnyCrash, HaveSameSlots}
use Rattle.hm_pages.specs.Calls.{IsSameFlush}
use Rattle.hm_pages.specs.Store.{Store}
use Rattle.hm_types.specs.Layout.{first_pool, start_of}
use Rattle.hm_undo.specs.Log.{entry_at}
use Rattle.hm_undo.proofs.LogLemmas.{entry-to}
use Rattle.hm_flush.specs.declared.flush.Flush.{Flush}
use Rattle.hm_flush.specs.declared.flush.Position.{Position}
use Rattle.hm_flush.specs.declared.flush.Position.TheVariants.{Idle, Undoing, Arming, Placing, Committing}
use Rattle.hm_flush.specs.Flush.{armed_header}
use Rattle.hm_flush.specs.Guard.{ArePlaced, Guards, HasSaved, HaveSameGuarded, IsGuarded, guarded_at, read_at}
use Rattle.hm_flush.proofs.GuardLemmas.{IsInLog, IsInPlaced, IsInRest, guarded-same, needs_at, read-same, reads_at}
use Rattle.hm_flush.proofs.KeptLemmas.{stands-still-there}

-- the first bytes where they lie outside the ranges, and else the second ones
abbrev mixed : List (ℕ × ℕ) → ℕ → List ℕ → List ℕ → List ℕ
mixed ranges at [] ys = []
mixed ranges at (x ∷ xs) [] = x ∷ mixed ranges (suc at) xs []
mixed ranges at (x ∷ xs) (y ∷ ys) = (if is_outside ranges at then x else y) ∷ mixed ranges (suc at) xs ys

length-mixed : (ranges : List (ℕ × ℕ)) (at : ℕ) (xs ys : List ℕ) → length (mixed ranges at xs ys) ≡ length xs
length-mixed ranges at [] ys = refl
length-mixed ranges at (x ∷ xs) [] = ap suc (length-mixed ranges (suc at) xs [])
length-mixed ranges at (x ∷ xs) (y ∷ ys) = ap suc (length-mixed ranges (suc at) xs ys)

mixed-byte : (ranges : List (ℕ × ℕ)) (at : ℕ) (xs ys : List ℕ) (i : ℕ) → i < length xs → length ys ≡ length xs
    → get_or (mixed ranges at xs ys) i 0 ≡ (if is_outside ranges (at + i) then get_or xs i 0 else get_or ys i 0)
mixed-byte ranges at [] ys i below same = absurd (omega (arith, below))
mixed-byte ranges at (x ∷ xs) [] i below same = absurd (omega (arith, same))
mixed-byte ranges at (x ∷ xs) (y ∷ ys) zero below same =
    let here : at ≡ at + 0 = omega arith in ap (λ (k : ℕ). if is_outside ranges k then x else y) here
mixed-byte ranges at (x ∷ xs) (y ∷ ys) (suc i) below same =
    let here : suc at + i ≡ at + suc i = omega arith in
    mixed-byte ranges (suc at) xs ys i (omega (arith, below)) (omega (arith, same))
    ∙ ap (λ (k : ℕ). if is_outside ranges k then get_or xs i 0 else get_or ys i 0) here

module _ (old new : Told) (Needed : ℕ → Type 0) (size : length new.bytes ≡ length old.bytes)
    (same : (byte : ℕ) → Needed byte → get_or new.bytes byte 0 ≡ get_or old.bytes byte 0)
    (settled : (byte : ℕ) → Needed byte → is_outside new.unsettled byte ≡ is_outside old.unsettled byte) (image : List ℕ)
    (left : MayLeave new.bytes new.unsettled image) where
  -- a crash of the old disk may leave this, which has the image's guarded bytes
  abbrev pub before : List ℕ
  before = mixed old.unsettled 0 old.bytes image

  sized : length image ≡ length old.bytes
  sized = left.size ∙ size

  at-byte : (byte : ℕ) → byte < length old.bytes
      → get_or before byte 0 ≡ (if is_outside old.unsettled byte then get_or old.bytes byte 0 else get_or image byte 0)
  at-byte byte below =
      let here : 0 + byte ≡ byte = omega arith in
      mixed-byte old.unsettled 0 old.bytes image byte below sized
      ∙ ap (λ (k : ℕ). if is_outside old.unsettled k then get_or old.bytes byte 0 else get_or image byte 0) here

  pub before-left : MayLeave old.bytes old.unsettled before
  before-left = record {
    size = length-mixed old.unsettled 0 old.bytes image;
    same = λ byte below outside.
        at-byte byte below
        ∙ ap (λ (b : Bool). if b then get_or old.bytes byte 0 else get_or image byte 0) (is_outside-from old.unsettled byte outside);
  }

  pub before-same : (byte : ℕ) → Needed byte → byte < length before → get_or image byte 0 ≡ get_or before byte 0
  before-same byte needed inside = step (is_outside old.unsettled byte) refl
    where
      below : byte < length old.bytes
      below = omega (arith, inside, before-left.size)

      step : (b : Bool) → is_outside old.unsettled byte ≡ b → get_or image byte 0 ≡ get_or before byte 0
      step true out =
          left.same byte (omega (arith, below, size)) (is_outside-is new.unsettled byte (settled byte needed ∙ out))
          ∙ (same byte needed ∙ sym (before-left.same byte below (is_outside-is old.unsettled byte out)))
      step false loose =
          sym (at-byte byte below ∙ ap (λ (b : Bool). if b then get_or old.bytes byte 0 else get_or image byte 0) loose)

-- what a guard hangs on is guarded
slots-guarded : (bigblocks : ℕ) (s : Store) (byte : ℕ) → byte < 2 * SLOT_BYTES → IsGuarded bigblocks s byte
slots-guarded bigblocks s byte below = inl (omega (arith, below))

log-guarded : (header : Header) (s : Store) (byte : ℕ) → IsInLog header byte → IsGuarded header.bigblocks s byte
log-guarded header s byte inside =
    inl (omega (arith, inside.2.1, entry-to header.bigblocks (entry_at header.undo_first inside.0) (omega arith)))

rest-guarded : (bigblocks : ℕ) (s : Store) (byte : ℕ) → IsInRest s byte → IsGuarded bigblocks s byte
rest-guarded bigblocks s byte inside = inr (inl (inside.0, inside.1, inside.2, inside.4))

needs-guarded : (p : Position) (f : Flush) (s : Store) (byte : ℕ) → needs_at p f s byte → IsGuarded f.header.bigblocks s byte
needs-guarded Idle f s byte (inl slots) = slots-guarded f.header.bigblocks s byte slots
needs-guarded Idle f s byte (inr pages) = inr (inl pages)
needs-guarded (Undoing from) f s byte (inl slots) = slots-guarded f.header.bigblocks s byte slots
needs-guarded (Undoing from) f s byte (inr pages) = inr (inl pages)
needs-guarded (Arming change) f s byte (inl pages) = inr (inl pages)
needs-guarded (Arming change) f s byte (inr log) = log-guarded (armed_header f.header f.written) s byte log
needs-guarded (Placing i) f s byte (inl rest) = rest-guarded f.header.bigblocks s byte rest
needs-guarded (Placing i) f s byte (inr log) = log-guarded f.header s byte log
needs-guarded (Committing change) f s byte (inl rest) = rest-guarded f.header.bigblocks s byte rest
needs-guarded (Committing change) f s byte (inr (inl log)) = log-guarded f.header s byte log
needs-guarded (Committing change) f s byte (inr (inr pages)) = inr (inr pages)

reads-guarded : (p : Position) (f : Flush) (s : Store) (byte : ℕ) → reads_at p f s byte → IsGuarded f.header.bigblocks s byte
reads-guarded Idle f s byte none = absurd none
reads-guarded (Undoing from) f s byte log = log-guarded (armed_header f.header f.written) s byte log
reads-guarded (Arming change) f s byte none = absurd none
reads-guarded (Placing i) f s byte placed = inr (inr (slice_index s.frozen_group placed.0, placed.2, placed.3, placed.4))
reads-guarded (Committing change) f s byte none = absurd none

-- the store of pages after calls that leave what is committed and frozen
abbrev moved : Store → Store → Store
moved s s' = record s' { committed = s.committed; frozen = s.frozen; frozen_group = s.frozen_group }

moved-is : (s s' : Store) → IsSameFlush s s' → moved s s' ≡ s'
moved-is s s' same =
    let make : PageMap → PageMap → List ℕ → Store = λ c f g. record s' { committed = c; frozen = f; frozen_group = g } in
    let all : make s.committed s.frozen s.frozen_group ≡ make s'.committed s'.frozen s'.frozen_group =
    rw (same.committed, same.frozen, same.frozen_group) refl in
    all

saved-moved : (header : Header) (s s' : Store) (to : ℕ) (bytes : List ℕ) → HasSaved header s to bytes → HasSaved header (moved s s') to bytes
saved-moved header s s' to bytes saved = record { olds = saved.olds; range = saved.range; committed = saved.committed; live = saved.live }

guarded-moved : (p : Position) (f : Flush) (s s' : Store) (image : List ℕ) → guarded_at p f s image → guarded_at p f (moved s s') image
guarded-moved Idle f s s' image was = was
guarded-moved (Undoing from) f s s' image was = was
guarded-moved (Arming change) f s s' image was = (was.0, saved-moved (armed_header f.header f.written) s s' (length s.frozen_group) image was.1)
guarded-moved (Placing i) f s s' image was = (was.0, saved-moved f.header s s' (length s.frozen_group) image was.1)
guarded-moved (Committing change) f s s' image was = (was.0, saved-moved f.header s s' (length s.frozen_group) image was.1, was.2)

read-moved : (p : Position) (f : Flush) (s s' : Store) (bytes : List ℕ) → read_at p f s bytes → read_at p f (moved s s') bytes
read-moved Idle f s s' bytes was = tt
read-moved (Undoing from) f s s' bytes was = saved-moved (armed_header f.header f.written) s s' from bytes was
read-moved (Arming change) f s s' bytes was = tt
read-moved (Placing i) f s s' bytes was = was
read-moved (Committing change) f s s' bytes was = tt

-- another disk, and another store
pub guards-same : (f : Flush) (s s' : Store) (old new : Told) → IsSameFlush s s' → HaveSameGuarded f.header.bigblocks s old new → Guards f s old
    → Guards f s' new
guards-same f s s' old new flush same guards = subst (λ (x : Store). Guards f x new) (moved-is s s' flush) (record {
  stands = stands-still-there f old new slots guards.stands;
  committed = guards.committed;
  frozen = guards.frozen;
  unarmed = guards.unarmed;
  crash = λ image left.
      let was = guards.crash (before old new needed same.size bytes settled image left) (before-left old new needed same.size bytes settled image left) in
      guarded-moved f.at f s s' image
      (guarded-same (before old new needed same.size bytes settled image left) image
      (left.size ∙ (same.size ∙ sym (before-left old new needed same.size bytes settled image left).size)) f.at f s
      (before-same old new needed same.size bytes settled image left) was);
  read = read-moved f.at f s s' new.bytes
      (read-same old.bytes new.bytes same.size f.at f s (λ byte is below. same.bytes byte (reads-guarded f.at f s byte is)) guards.read);
})
  where
    needed : ℕ → Type 0
    needed = needs_at f.at f s

    bytes : (byte : ℕ) → needs_at f.at f s byte → get_or new.bytes byte 0 ≡ get_or old.bytes byte 0
    bytes byte is = same.bytes byte (needs-guarded f.at f s byte is)

    settled : (byte : ℕ) → needs_at f.at f s byte → is_outside new.unsettled byte ≡ is_outside old.unsettled byte
    settled byte is = same.settled byte (needs-guarded f.at f s byte is)

    slots : HaveSameSlots old new
    slots = record {
      size = same.size;
      bytes = λ byte below. same.bytes byte (slots-guarded f.header.bigblocks s byte below);
      settled = λ byte below. same.settled byte (slots-guarded f.header.bigblocks s byte below);
    }
