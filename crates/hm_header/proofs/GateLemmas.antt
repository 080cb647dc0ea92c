-- The gates of the slots in the bytes of a disk.
use Rattle.std.proofs.Common.{◌≡◌, ◌⊎◌, inl, inr, ⊎_elim, ℕ, ◌+◌, ◌-◌, ◌<◌, ◌≤◌, List, []}
use Rattle.std.proofs.Common.{◌∷◌, sym, ap, subst, ◌∙◌, arith, get_or, length, slice_index, slice_range}
use Rattle.std.proofs.lemmas.List.{places}
use Rattle.std.proofs.lemmas.Bool.{cases_lt}
use Rattle.hm_disk.specs.Crash.{MayLeave, Outside}
use Rattle.hm_disk.specs.Disk.{overwritten}
use Rattle.hm_disk.proofs.OverwriteLemmas.{get_or-overwritten_in}
use Rattle.hm_header.specs.declared.header.TheConstants.{GATE_OPEN}
use Rattle.hm_header.specs.Slots.{IsClosed}
use Rattle.hm_header.specs.OnDisk.{HasSlots, gate_place, slot_in, slot_place}
use Rattle.hm_header.proofs.OnDiskLemmas.{slot-byte}

-- a byte is that of an open gate or not
pub is-open : (value : ℕ) → (value ≡ GATE_OPEN) ⊎ (value ≡ GATE_OPEN → ⊥)
is-open value =
    ⊎_elim (λ low. inr (λ is. omega (arith, low, is)))
    (λ from. ⊎_elim (λ here. inl (omega (arith, from, here))) (λ above. inr (λ is. omega (arith, above, is))) (cases_lt value 166))
    (cases_lt value 165)

-- a gate is closed that reads as another byte than that of an open one
pub closed-by-byte : (number : ℕ) (bytes : List ℕ) → number ≤ 1 → (slice_index bytes (gate_place number) ≡ GATE_OPEN → ⊥)
    → IsClosed (slot_in bytes number)
closed-by-byte number bytes small shut is_open =
    shut (sym (slot-byte number bytes 16383 small (omega arith)) ∙ is_open)

-- the gate is overwritten with a byte
pub gate-overwritten : (number : ℕ) (old : List ℕ) (byte : ℕ) → number ≤ 1 → HasSlots old
    → slice_index (overwritten old (gate_place number) (byte ∷ [])) (gate_place number) ≡ byte
gate-overwritten number old byte small both =
    let back : gate_place number - gate_place number ≡ 0 = omega arith in
    get_or-overwritten_in old (gate_place number) (byte ∷ []) (gate_place number) (omega arith) (omega arith) (omega arith)
    ∙ ap (λ k. get_or (byte ∷ []) k 0) back

-- a gate that was not written, under which another range of its slot changed
pub closed-kept : (number : ℕ) (old new : List ℕ) → number ≤ 1 → HasSlots old → MayLeave old ((slot_place number, 16383) ∷ []) new
    → IsClosed (slot_in old number) → IsClosed (slot_in new number)
closed-kept number old new small both change closed is_open =
    closed (slot-byte number old 16383 small (omega arith)
    ∙ (sym (change.same (gate_place number) (omega (arith, small, both)) (inr (omega arith), tt))
    ∙ (sym (slot-byte number new 16383 small (omega arith)) ∙ is_open)))

-- one byte was read
pub byte-read : (bytes buf : List ℕ) (place : ℕ) → buf ≡ slice_range bytes place (place + 1) → get_or buf 0 0 ≡ slice_index bytes place
byte-read bytes buf place read = ap (λ (bs : List ℕ). get_or bs 0 0) read ∙ grind (arith, places)

-- a byte that is as before is as if it were settled
pub byte-same : (old image : List ℕ) (unsettled : List (ℕ × ℕ)) (place : ℕ) → slice_index image place ≡ slice_index old place
    → MayLeave old ((place, 1) ∷ unsettled) image → MayLeave old unsettled image
byte-same old image unsettled place here left = record { size = left.size; same = each }
  where
    each : (byte : ℕ) → byte < length old → Outside unsettled byte → slice_index image byte ≡ slice_index old byte
    each byte below outside =
        ⊎_elim (λ low. left.same byte below (inl low, outside))
        (λ from. ⊎_elim
        (λ to. let at : byte ≡ place = omega (arith, from, to) in
        subst (λ (k : ℕ). slice_index image k ≡ slice_index old k) (sym at) here)
        (λ above. left.same byte below (inr above, outside))
        (cases_lt byte (place + 1)))
        (cases_lt byte place)
