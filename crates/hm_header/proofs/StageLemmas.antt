-- What the stages of a header change leave.
use Rattle.std.proofs.Common.{◌≡◌, ◌⊎◌, inl, inr, ⊎_elim, ℕ, ◌+◌, ◌-◌, ◌<◌, ◌≤◌, List, [], ◌∷◌}
use Rattle.std.proofs.Common.{◌++◌, refl, sym, ap, subst, ◌∙◌, arith, length, take, get_or, slice_index, slice_range}
use Rattle.std.proofs.lemmas.List.{places, take_at}
use Rattle.std.proofs.lemmas.Bool.{cases_lt}
use Rattle.hm_disk.specs.Crash.{Told, MayLeave, Outside}
use Rattle.hm_disk.specs.Disk.{Synced, overwritten}
use Rattle.hm_disk.specs.Moments.{Each, Elapses, LeftSince, SameLeft, SyncElapses, WriteElapses}
use Rattle.hm_disk.specs.Transfer.{TornAll, WrittenSynced}
use Rattle.hm_disk.proofs.CrashLemmas.{MayLeave-fewer, MayLeave-same, MayLeave-through}
use Rattle.hm_disk.proofs.MomentLemmas.{Elapses-none, Elapses-read}
use Rattle.hm_disk.proofs.OverwriteLemmas.{MayLeave-overwritten, get_or-overwritten_in, get_or-overwritten_out, length-overwritten}
use Rattle.hm_header.specs.declared.header.Header.{Header}
use Rattle.hm_header.specs.declared.header.TheConstants.{GATE_OPEN}
use Rattle.hm_header.specs.Change.{AnyCrash, HasNextBody, HoldsHeader, IsBodyWritten, IsChanged, IsClosedBeside}
use Rattle.hm_header.specs.Change.{IsCounting, IsNext, StageDone, StageElapses, StageFailed}
use Rattle.hm_header.specs.Layout.{body_of}
use Rattle.hm_header.specs.OnDisk.{HasHeader, HasSlots, gate_place, slot_in, slot_place}
use Rattle.hm_header.specs.Range.{IsHeader}
use Rattle.hm_header.specs.Slots.{IsClosed, SpellsHeader}
use Rattle.hm_header.proofs.GateLemmas.{byte-same, closed-by-byte, closed-kept, gate-overwritten, is-open}
use Rattle.hm_header.proofs.HeaderLemmas.{header-held, header-kept, header-slots, held-counts, held-kept, held-slots, next-header}
use Rattle.hm_header.proofs.OnDiskLemmas.{body-written, other-slot-kept, slot-byte, slot-of-body, slot-under-gate}
use Rattle.hm_header.proofs.SliceLemmas.{length-slice, slice-byte}
use Rattle.hm_header.proofs.SlotLemmas.{length-body}

-- what a crash leaves within a write is what one might have left before it, but for the range
pub record LeftBefore (bytes : List ℕ) (unsettled : List (ℕ × ℕ)) (place count : ℕ) (image : List ℕ) : Type 0 where
  pub before : List ℕ
  pub left : MayLeave bytes unsettled before
  pub change : MayLeave before ((place, count) ∷ []) image

pub left-before : (bytes : List ℕ) (unsettled : List (ℕ × ℕ)) (place count : ℕ) (image : List ℕ) → place + count ≤ length bytes
    → MayLeave bytes ((place, count) ∷ unsettled) image → LeftBefore bytes unsettled place count image
left-before bytes unsettled place count image within left = record {
  before = back;
  left = record { size = size ∙ left.size; same = each };
  change = record { size = sym size; same = λ byte below outside. sym (out byte below outside.0) };
}
  where
    piece : List ℕ
    piece = slice_range bytes place (place + count)

    long : length piece ≡ count
    long =
        let cut : place + count - place ≡ count = omega arith in
        length-slice bytes place (place + count) within ∙ cut

    back : List ℕ
    back = overwritten image place piece

    fits : place + length piece ≤ length image
    fits = omega (arith, within, long, left.size)

    size : length back ≡ length image
    size = length-overwritten image place piece fits

    out : (byte : ℕ) → byte < length back → (byte < place) ⊎ (place + count ≤ byte) → get_or back byte 0 ≡ get_or image byte 0
    out byte below (inl low) = get_or-overwritten_out image place piece byte fits (omega (arith, below, size)) (inl low)
    out byte below (inr high) = get_or-overwritten_out image place piece byte fits (omega (arith, below, size)) (inr (omega (arith, high, long)))

    inside : (byte : ℕ) → place ≤ byte → byte < place + count → get_or back byte 0 ≡ get_or bytes byte 0
    inside byte from to =
        let at : place + (byte - place) ≡ byte = omega (arith, from) in
        get_or-overwritten_in image place piece byte fits from (omega (arith, to, long))
        ∙ (slice-byte bytes place (place + count) (byte - place) (omega (arith, from, to)) ∙ ap (λ (k : ℕ). get_or bytes k 0) at)

    each : (byte : ℕ) → byte < length bytes → Outside unsettled byte → get_or back byte 0 ≡ get_or bytes byte 0
    each byte below outside =
        let here : byte < length back = omega (arith, below, size, left.size) in
        ⊎_elim (λ low. out byte here (inl low) ∙ left.same byte below (inl low, outside))
        (λ from. ⊎_elim (λ to. inside byte from to) (λ above. out byte here (inr above) ∙ left.same byte below (inr above, outside))
        (cases_lt byte (place + count)))
        (cases_lt byte place)

-- a disk that was torn leaves only what a crash within the write leaves
pub torn-leaves : (place count : ℕ) (s t : Told) → TornAll place count s t
    → Each (MayLeave t.bytes t.unsettled) (MayLeave s.bytes ((place, count) ∷ s.unsettled))
torn-leaves place count s t torn image left =
    MayLeave-through s.bytes t.bytes image ((place, count) ∷ s.unsettled) t.unsettled
    (MayLeave-fewer s.bytes t.bytes ((place, count) ∷ s.unsettled) ((place, count) ∷ []) (λ byte outside. (outside.0, tt)) torn.bytes_are)
    torn.unsettled_are left

-- more images
pub Elapses-within : (Within All : List ℕ → Type 0) (past since : LeftSince) (old new : Told) → Each Within All → Elapses Within past since old new
    → Elapses All past since old new
Elapses-within Within All past since old new each time = record {
  later = time.later;
  size = time.size;
  only = λ moment image early left. ⊎_elim (λ was. inl was) (λ within. inr (each image within)) (time.only moment image early left);
  keeps = time.keeps;
}

-- a read before
Elapses-after-read : (Within : List ℕ → Type 0) (past middle since : LeftSince) (old new : Told) → SameLeft past middle
    → Elapses Within middle since old new → Elapses Within past since old new
Elapses-after-read Within past middle since old new same time = record {
  later = time.later;
  size = time.size;
  only = λ moment image early left. ⊎_elim (λ was. inl ((same moment image).1 was)) (λ within. inr within) (time.only moment image early left);
  keeps = λ moment image early left. time.keeps moment image early ((same moment image).0 left);
}

-- a stage that writes its range, or writes nothing
module _ (Has : List ℕ → Type 0) (place count : ℕ) where
  pub failed-write : (s t : Told) → Each (MayLeave s.bytes ((place, count) ∷ s.unsettled)) Has → TornAll place count s t → StageFailed Has place count s t
  failed-write s t within torn = record { torn = torn; crash = λ image left. within image (torn-leaves place count s t torn image left) }

  pub failed-same : (t : Told) → AnyCrash Has t → StageFailed Has place count t t
  failed-same t safe = record {
    torn = record { bytes_are = MayLeave-same t.bytes ((place, count) ∷ []); unsettled_are = λ byte outside. outside.1; moment_is = refl };
    crash = safe;
  }

  pub write-elapses : (past since : LeftSince) (s t : Told) → Each (MayLeave s.bytes ((place, count) ∷ s.unsettled)) Has
      → WriteElapses place count past since s t → StageElapses Has place count past since s t
  write-elapses past since s t within time = Elapses-within _ _ past since s t (λ image left. record { has = within image left; others = left }) time

  pub written-elapses : (past middle since : LeftSince) (s t : Told) → Each (MayLeave s.bytes ((place, count) ∷ s.unsettled)) Has
      → SameLeft past middle → WriteElapses place count middle since s t → StageElapses Has place count past since s t
  written-elapses past middle since s t within same time = Elapses-after-read _ past middle since s t same (write-elapses middle since s t within time)

  pub read-elapses : (past since : LeftSince) (t : Told) → SameLeft past since → StageElapses Has place count past since t t
  read-elapses past since t same = Elapses-read _ past past since t t (Elapses-none _ past t) same

  pub synced-elapses : (past middle since : LeftSince) (s t : Told) → AnyCrash Has s → SameLeft past middle → SyncElapses middle since s t
      → StageElapses Has place count past since s t
  synced-elapses past middle since s t safe same time =
      Elapses-after-read _ past middle since s t same
      (Elapses-within _ _ middle since s t
      (λ image left. record {
        has = safe image left;
        others = MayLeave-fewer s.bytes image ((place, count) ∷ s.unsettled) s.unsettled (λ byte outside. outside.1) left;
      }) time)

-- a range that was written
written-change : (place : ℕ) (bytes : List ℕ) (s t : Told) → place + length bytes ≤ length s.bytes → WrittenSynced place bytes s t
    → MayLeave s.bytes ((place, length bytes) ∷ []) t.bytes
written-change place bytes s t fits written =
    subst (λ (bs : List ℕ). MayLeave s.bytes ((place, length bytes) ∷ []) bs) (sym written.bytes_are)
    (MayLeave-overwritten s.bytes place (length bytes) bytes (omega arith) fits)

-- a byte of a front
take-byte : (xs : List ℕ) (n i : ℕ) → i < n → get_or (take n xs) i 0 ≡ get_or xs i 0
take-byte xs n i below = grind (arith, places)

-- a byte of a slot that has the body of a header
spelled-byte : (number : ℕ) (bytes : List ℕ) (header : Header) → number ≤ 1 → SpellsHeader (slot_in bytes number) header
    → (i : ℕ) → i < 16383 → slice_index bytes (slot_place number + i) ≡ slice_index (body_of header) i
spelled-byte number bytes header small spelled i below =
    sym (slot-byte number bytes i small (omega (arith, below)))
    ∙ (sym (take-byte (slot_in bytes number) 16383 i below) ∙ ap (λ (xs : List ℕ). get_or xs i 0) spelled)

module _ (header : Header) (slot : ℕ) (small : slot ≤ 1) where
  -- a range of the other slot changed
  slot-same : (old new : List ℕ) (place count : ℕ) → slot_place (1 - slot) ≤ place → place + count ≤ slot_place (1 - slot) + 16384
      → MayLeave old ((place, count) ∷ []) new → slot_in new slot ≡ slot_in old slot
  slot-same old new place count from to change = other-slot-kept slot old new place count small from to change

  counts-now : (s : Told) → AnyCrash (IsCounting header slot) s → HasHeader s.bytes header slot
  counts-now s safe = safe s.bytes (MayLeave-same s.bytes s.unsettled)

  -- Within the first stage the gate is open still, and then all is as before, or it is closed.
  pub close-leaves : (s : Told) → AnyCrash (IsCounting header slot) s → slice_index s.bytes (gate_place (1 - slot)) ≡ GATE_OPEN
      → Each (MayLeave s.bytes ((gate_place (1 - slot), 1) ∷ s.unsettled)) (IsCounting header slot)
  close-leaves s safe was_open image left =
      ⊎_elim (λ still. safe image (byte-same s.bytes image s.unsettled (gate_place (1 - slot)) (still ∙ sym was_open) left)) shut
      (is-open (slice_index image (gate_place (1 - slot))))
    where
      both : HasSlots s.bytes
      both = header-slots s.bytes header slot (counts-now s safe)

      shut : (slice_index image (gate_place (1 - slot)) ≡ GATE_OPEN → ⊥) → HasHeader image header slot
      shut closed =
          let b = left-before s.bytes s.unsettled (gate_place (1 - slot)) 1 image (omega (arith, both)) left in
          header-kept b.before image header slot small b.change.size
          (slot-same b.before image (gate_place (1 - slot)) 1 (omega arith) (omega arith) b.change)
          (closed-by-byte (1 - slot) image (omega arith) closed) (safe b.before b.left)

  -- the gate was written closed
  pub close-written : (s t : Told) → AnyCrash (IsCounting header slot) s → WrittenSynced (gate_place (1 - slot)) (0 ∷ []) s t
      → StageDone (IsClosedBeside header slot) (gate_place (1 - slot)) 1 s t
  close-written s t safe written = record {
    has = record {
      header_is = header-kept s.bytes t.bytes header slot small change.size
          (slot-same s.bytes t.bytes (gate_place (1 - slot)) 1 (omega arith) (omega arith) change) closed (counts-now s safe);
      closed = closed;
    };
    others = change;
    settled = written.unsettled_are;
    later = written.later;
  }
    where
      both : HasSlots s.bytes
      both = header-slots s.bytes header slot (counts-now s safe)

      change : MayLeave s.bytes ((gate_place (1 - slot), 1) ∷ []) t.bytes
      change = written-change (gate_place (1 - slot)) (0 ∷ []) s t (omega (arith, both)) written

      zero_there : slice_index t.bytes (gate_place (1 - slot)) ≡ 0
      zero_there = ap (λ (bs : List ℕ). slice_index bs (gate_place (1 - slot))) written.bytes_are ∙ gate-overwritten (1 - slot) s.bytes 0 (omega arith) both

      closed : IsClosed (slot_in t.bytes (1 - slot))
      closed = closed-by-byte (1 - slot) t.bytes (omega arith) (λ is_open. absurd (omega (arith, sym is_open ∙ zero_there)))

  -- the gate was closed already
  pub close-already : (s t : Told) → AnyCrash (IsCounting header slot) s → (slice_index s.bytes (gate_place (1 - slot)) ≡ GATE_OPEN → ⊥) → Synced s t
      → StageDone (IsClosedBeside header slot) (gate_place (1 - slot)) 1 s t
  close-already s t safe shut synced = record {
    has = subst (λ (bs : List ℕ). IsClosedBeside header slot bs) (sym synced.bytes_are)
        (record { header_is = counts-now s safe; closed = closed-by-byte (1 - slot) s.bytes (omega arith) shut });
    others = subst (λ (bs : List ℕ). MayLeave s.bytes ((gate_place (1 - slot), 1) ∷ []) bs) (sym synced.bytes_are) (MayLeave-same s.bytes _);
    settled = synced.unsettled_are;
    later = synced.later;
  }

  -- Within the second stage the gate is closed over any body.
  beside-kept : (old new : List ℕ) → MayLeave old ((slot_place (1 - slot), 16383) ∷ []) new → IsClosedBeside header slot old → IsClosedBeside header slot new
  beside-kept old new change was =
      let closed = closed-kept (1 - slot) old new (omega arith) (header-slots old header slot was.header_is) change was.closed in record {
        header_is = header-kept old new header slot small change.size
            (slot-same old new (slot_place (1 - slot)) 16383 (omega arith) (omega arith) change) closed was.header_is;
        closed = closed;
      }

  beside-now : (s : Told) → AnyCrash (IsClosedBeside header slot) s → IsClosedBeside header slot s.bytes
  beside-now s safe = safe s.bytes (MayLeave-same s.bytes s.unsettled)

  pub body-leaves : (s : Told) → AnyCrash (IsClosedBeside header slot) s
      → Each (MayLeave s.bytes ((slot_place (1 - slot), 16383) ∷ s.unsettled)) (IsClosedBeside header slot)
  body-leaves s safe image left =
      let both : HasSlots s.bytes = header-slots s.bytes header slot (beside-now s safe).header_is in
      let b = left-before s.bytes s.unsettled (slot_place (1 - slot)) 16383 image (omega (arith, both)) left in
      beside-kept b.before image b.change (safe b.before b.left)

  module _ (next : Header) where
    -- the body was written
    pub body-done : (s t : Told) → AnyCrash (IsClosedBeside header slot) s → WrittenSynced (slot_place (1 - slot)) (body_of next) s t
        → StageDone (IsBodyWritten header slot next) (slot_place (1 - slot)) 16383 s t
    body-done s t safe written = record {
      has = (beside, record { held = header-held t.bytes header slot beside.header_is; body = spelled; header_is = inl beside.header_is });
      others = change;
      settled = written.unsettled_are;
      later = written.later;
    }
      where
        both : HasSlots s.bytes
        both = header-slots s.bytes header slot (beside-now s safe).header_is

        change : MayLeave s.bytes ((slot_place (1 - slot), 16383) ∷ []) t.bytes
        change = subst (λ (n : ℕ). MayLeave s.bytes ((slot_place (1 - slot), n) ∷ []) t.bytes) (length-body next)
            (written-change (slot_place (1 - slot)) (body_of next) s t (omega (arith, both, length-body next)) written)

        beside : IsClosedBeside header slot t.bytes
        beside = beside-kept s.bytes t.bytes change (beside-now s safe)

        spelled : SpellsHeader (slot_in t.bytes (1 - slot)) next
        spelled =
            ap (λ (xs : List ℕ). take 16383 xs)
            (slot-of-body (1 - slot) t.bytes (body_of next) (omega arith) (omega (arith, both, change.size)) (length-body next)
            (λ i below. ap (λ (bs : List ℕ). slice_index bs (slot_place (1 - slot) + i)) written.bytes_are
            ∙ body-written (1 - slot) s.bytes (body_of next) (omega arith) both (length-body next) i below))
            ∙ take_at (body_of next) (slice_index t.bytes (gate_place (1 - slot)) ∷ []) 16383 (length-body next)

    module _ (is_next : IsHeader next) (follows : IsNext header next) where
      -- Within the third stage the next header counts where the gate is open, and else the header does.
      slot-written : (old new : List ℕ) → MayLeave old ((gate_place (1 - slot), 1) ∷ []) new → HasNextBody header slot next old
          → slot_in new (1 - slot) ≡ body_of next ++ slice_index new (gate_place (1 - slot)) ∷ []
      slot-written old new change was =
          slot-under-gate (1 - slot) old (body_of next) new (omega arith) (held-slots old header slot was.held) (length-body next)
          (spelled-byte (1 - slot) old next (omega arith) was.body) change

      held-still : (old new : List ℕ) → MayLeave old ((gate_place (1 - slot), 1) ∷ []) new → HasNextBody header slot next old → HoldsHeader header slot new
      held-still old new change was =
          held-kept old new header slot change.size (slot-same old new (gate_place (1 - slot)) 1 (omega arith) (omega arith) change) was.held

      opened : (old new : List ℕ) → MayLeave old ((gate_place (1 - slot), 1) ∷ []) new → HasNextBody header slot next old
          → slice_index new (gate_place (1 - slot)) ≡ GATE_OPEN → HasHeader new next (1 - slot)
      opened old new change was is_open =
          next-header new header next slot small is_next follows (held-still old new change was)
          (slot-written old new change was ∙ ap (λ (byte : ℕ). body_of next ++ byte ∷ []) is_open)

      next-kept : (old new : List ℕ) → MayLeave old ((gate_place (1 - slot), 1) ∷ []) new → HasNextBody header slot next old → HasNextBody header slot next new
      next-kept old new change was = record {
        held = held-still old new change was;
        body = ap (λ (xs : List ℕ). take 16383 xs) (slot-written old new change was)
            ∙ take_at (body_of next) (slice_index new (gate_place (1 - slot)) ∷ []) 16383 (length-body next);
        header_is = ⊎_elim (λ is_open. inr (opened old new change was is_open))
            (λ shut. inl (held-counts new header slot small (held-still old new change was) (closed-by-byte (1 - slot) new (omega arith) shut)))
            (is-open (slice_index new (gate_place (1 - slot))));
      }

      next-now : (s : Told) → AnyCrash (HasNextBody header slot next) s → HasNextBody header slot next s.bytes
      next-now s safe = safe s.bytes (MayLeave-same s.bytes s.unsettled)

      pub open-leaves : (s : Told) → AnyCrash (HasNextBody header slot next) s
          → Each (MayLeave s.bytes ((gate_place (1 - slot), 1) ∷ s.unsettled)) (HasNextBody header slot next)
      open-leaves s safe image left =
          let both : HasSlots s.bytes = held-slots s.bytes header slot (next-now s safe).held in
          let b = left-before s.bytes s.unsettled (gate_place (1 - slot)) 1 image (omega (arith, both)) left in
          next-kept b.before image b.change (safe b.before b.left)

      -- the gate is open
      pub open-done : (s t : Told) → AnyCrash (HasNextBody header slot next) s → WrittenSynced (gate_place (1 - slot)) (GATE_OPEN ∷ []) s t
          → StageDone (IsChanged slot next) (gate_place (1 - slot)) 1 s t
      open-done s t safe written = record {
        has = opened s.bytes t.bytes change (next-now s safe)
            (ap (λ (bs : List ℕ). slice_index bs (gate_place (1 - slot))) written.bytes_are ∙ gate-overwritten (1 - slot) s.bytes GATE_OPEN (omega arith) both);
        others = change;
        settled = written.unsettled_are;
        later = written.later;
      }
        where
          both : HasSlots s.bytes
          both = held-slots s.bytes header slot (next-now s safe).held

          change : MayLeave s.bytes ((gate_place (1 - slot), 1) ∷ []) t.bytes
          change = written-change (gate_place (1 - slot)) (GATE_OPEN ∷ []) s t (omega (arith, both)) written
