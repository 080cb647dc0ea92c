-- The header slots of bytes that changed in a range.
use Rattle.std.proofs.Common.{◌≡◌, ◌⊎◌, inl, inr, ⊎_elim, ℕ, zero, suc, ◌+◌, ◌-◌, ◌<◌, ◌≤◌, List, []}
use Rattle.std.proofs.Common.{◌∷◌, ◌++◌, refl, sym, ap, subst, ◌∙◌, arith, length, get_or, slice_range, slice_index}
use Rattle.std.proofs.lemmas.List.{places, ext_get_or}
use Rattle.std.proofs.lemmas.Bool.{cases_lt}
use Rattle.hm_disk.specs.Crash.{MayLeave}
use Rattle.hm_disk.specs.Disk.{overwritten}
use Rattle.hm_disk.proofs.OverwriteLemmas.{get_or-overwritten_in}
use Rattle.hm_header.specs.declared.header.TheConstants.{SLOT_BYTES}
use Rattle.hm_header.specs.OnDisk.{HasSlots, gate_place, slot_in, slot_place}
use Rattle.hm_header.proofs.SliceLemmas.{length-slice, slice-byte, slice-kept}

-- a slot as a range
pub slot-range : (number : ℕ) (bytes : List ℕ) → number ≤ 1 → slot_in bytes number ≡ slice_range bytes (slot_place number) (slot_place number + SLOT_BYTES)
slot-range zero bytes small = refl
slot-range (suc zero) bytes small = refl
slot-range (suc (suc number)) bytes small = absurd (omega arith)

-- a slot outside the range that changed
pub slot-kept : (number : ℕ) (old new : List ℕ) (place count : ℕ) → number ≤ 1
    → (slot_place number + SLOT_BYTES ≤ place) ⊎ (place + count ≤ slot_place number)
    → MayLeave old ((place, count) ∷ []) new → slot_in new number ≡ slot_in old number
slot-kept number old new place count small apart change =
    slot-range number new small
    ∙ (slice-kept old new place count (slot_place number) (slot_place number + SLOT_BYTES) apart change ∙ sym (slot-range number old small))

-- a byte of a slot
pub slot-byte : (number : ℕ) (bytes : List ℕ) (i : ℕ) → number ≤ 1 → i < 16384
    → slice_index (slot_in bytes number) i ≡ slice_index bytes (slot_place number + i)
slot-byte number bytes i small below =
    ap (λ (xs : List ℕ). slice_index xs i) (slot-range number bytes small)
    ∙ slice-byte bytes (slot_place number) (slot_place number + SLOT_BYTES) i (omega (arith, below))

pub length-slot : (number : ℕ) (bytes : List ℕ) → number ≤ 1 → HasSlots bytes → length (slot_in bytes number) ≡ 16384
length-slot number bytes small both =
    let size : slot_place number + SLOT_BYTES - slot_place number ≡ 16384 = omega arith in
    ap (λ (xs : List ℕ). length xs) (slot-range number bytes small)
    ∙ (length-slice bytes (slot_place number) (slot_place number + SLOT_BYTES) (omega (arith, small, both)) ∙ size)

-- a slot that has a body, and any gate
pub slot-of-body : (number : ℕ) (bytes body : List ℕ) → number ≤ 1 → HasSlots bytes → length body ≡ 16383
    → ((i : ℕ) → i < 16383 → slice_index bytes (slot_place number + i) ≡ slice_index body i)
    → slot_in bytes number ≡ body ++ slice_index bytes (gate_place number) ∷ []
slot-of-body number bytes body small both long same =
    ext_get_or 0 (slot_in bytes number) (body ++ slice_index bytes (gate_place number) ∷ []) (sized ∙ sym whole)
    (λ i below. each i (omega (arith, sized, below)))
  where
    sized : length (slot_in bytes number) ≡ 16384
    sized = length-slot number bytes small both

    whole : length (body ++ slice_index bytes (gate_place number) ∷ []) ≡ 16384
    whole = grind (arith, places)

    early : (i : ℕ) → i < 16383 → get_or (slot_in bytes number) i 0 ≡ get_or (body ++ slice_index bytes (gate_place number) ∷ []) i 0
    early i below =
        let right : get_or (body ++ slice_index bytes (gate_place number) ∷ []) i 0 ≡ get_or body i 0 = grind (arith, places) in
        slot-byte number bytes i small (omega arith) ∙ (same i below ∙ sym right)

    last : get_or (slot_in bytes number) 16383 0 ≡ get_or (body ++ slice_index bytes (gate_place number) ∷ []) 16383 0
    last =
        let right : get_or (body ++ slice_index bytes (gate_place number) ∷ []) 16383 0 ≡ slice_index bytes (gate_place number) = grind (arith, places) in
        slot-byte number bytes 16383 small (omega arith) ∙ sym right

    each : (i : ℕ) → i < 16384 → get_or (slot_in bytes number) i 0 ≡ get_or (body ++ slice_index bytes (gate_place number) ∷ []) i 0
    each i below =
        ⊎_elim (λ low. early i low)
        (λ high. subst (λ (k : ℕ). get_or (slot_in bytes number) k 0 ≡ get_or (body ++ slice_index bytes (gate_place number) ∷ []) k 0) (omega arith) last)
        (cases_lt i 16383)

-- a slot that has a body keeps it where its gate alone changes
pub slot-under-gate : (number : ℕ) (old body new : List ℕ) → number ≤ 1 → HasSlots old → length body ≡ 16383
    → ((i : ℕ) → i < 16383 → slice_index old (slot_place number + i) ≡ slice_index body i)
    → MayLeave old ((gate_place number, 1) ∷ []) new → slot_in new number ≡ body ++ slice_index new (gate_place number) ∷ []
slot-under-gate number old body new small both long has change =
    slot-of-body number new body small (omega (arith, change.size, both)) long
    (λ i below. change.same (slot_place number + i) (omega (arith, below, small, both)) (inl (omega (arith, below)), tt) ∙ has i below)

-- a body that was written
pub body-written : (number : ℕ) (old body : List ℕ) → number ≤ 1 → HasSlots old → length body ≡ 16383
    → (i : ℕ) → i < 16383 → slice_index (overwritten old (slot_place number) body) (slot_place number + i) ≡ slice_index body i
body-written number old body small both long i below =
    let fits : slot_place number + length body ≤ length old = omega (arith, long, small, both) in
    let back : slot_place number + i - slot_place number ≡ i = omega arith in
    get_or-overwritten_in old (slot_place number) body (slot_place number + i) fits (omega arith) (omega (arith, long, below))
    ∙ ap (λ k. get_or body k 0) back

-- a slot keeps what it has where a range of the other one changes
pub other-slot-kept : (number : ℕ) (old new : List ℕ) (place count : ℕ) → number ≤ 1 → slot_place (1 - number) ≤ place
    → place + count ≤ slot_place (1 - number) + SLOT_BYTES → MayLeave old ((place, count) ∷ []) new → slot_in new number ≡ slot_in old number
other-slot-kept number old new place count small from to change =
    slot-kept number old new place count small (apart number small from to) change
  where
    apart : (number : ℕ) → number ≤ 1 → slot_place (1 - number) ≤ place → place + count ≤ slot_place (1 - number) + SLOT_BYTES
        → (slot_place number + SLOT_BYTES ≤ place) ⊎ (place + count ≤ slot_place number)
    apart zero small from to = inl (omega (arith, from))
    apart (suc zero) small from to = inr (omega (arith, to))
    apart (suc (suc number)) small from to = absurd (omega (arith, small))
