-- The ledger of a run: what is left at least after some calls.
use Rattle.std.specs.Prelude.{◌≡◌, ℕ, ◌+◌, ◌-◌, ◌*◌, ◌/◌, ◌<◌, ◌≤◌, Bool, true, false, nat_eq, if◌then◌else◌}
use Rattle.std.proofs.Common.{refl, arith}
use Rattle.hm_key.specs.Charges.{Charges, one_for}
use Rattle.hm_types.specs.Space.{reserve_of}
use Rattle.hm_types.specs.declared.limits.TheConstants.{BIGBLOCK_BYTES}
use Rattle.hm_core.specs.Ledger.{IsPaid, calls_in}

-- a run begins with nothing taken
pub paid_first : (free : ℕ) (room : ℕ → ℕ) → IsPaid free free 0 room
paid_first free room = record { begun = λ zone. 0; filled = λ zone. omega arith; paid = omega arith }

-- a big-block of zone 8 lasts 8 calls, and one of another zone 64
tree_most : (calls room begun : ℕ) → room ≤ BIGBLOCK_BYTES → begun * calls_in 8 ≤ calls + room / reserve_of 8 → begun ≤ calls / 8 + 1
tree_most calls room begun most filled = omega (arith, most, filled)

others_most : (calls room begun : ℕ) → room ≤ BIGBLOCK_BYTES → begun * calls_in 9 ≤ calls + room / reserve_of 9 → begun ≤ calls / 64 + 1
others_most calls room begun most filled = omega (arith, most, filled)

-- what is left at least
pub paid_floor : (first free calls : ℕ) (room : ℕ → ℕ) → ((zone : ℕ) → room zone ≤ BIGBLOCK_BYTES) → IsPaid first free calls room
    → first - 4 - calls / 8 - 3 * (calls / 64) ≤ free
paid_floor first free calls room most h =
    let tree = tree_most calls (room 8) (h.begun 8) (most 8) (h.filled 8) in
    let meta = others_most calls (room 9) (h.begun 9) (most 9) (h.filled 9) in
    let large = others_most calls (room 10) (h.begun 10) (most 10) (h.filled 10) in
    let small = others_most calls (room 11) (h.begun 11) (most 11) (h.filled 11) in
    let paid = h.paid in
    omega (arith, tree, meta, large, small, paid)

-- the reserve of zone 8, and that of another zone
abbrev rate : Bool → ℕ
rate tree = if tree then 1048576 else 131072

-- One zone, in a call that began a big-block there or did not.
one_zone : (tree : Bool) (calls room room' most begun : ℕ) (begins : Bool) → (begins ≡ true → room < rate tree)
    → (begins ≡ true → BIGBLOCK_BYTES ≤ room' + most) → (begins ≡ false → room ≤ room' + most) → most ≤ rate tree
    → begun * (BIGBLOCK_BYTES / rate tree) ≤ calls + room / rate tree
    → (begun + one_for begins) * (BIGBLOCK_BYTES / rate tree) ≤ calls + 1 + room' / rate tree
one_zone true calls room room' most begun true lacked whole others fits filled =
    let low = lacked refl in
    let full = whole refl in
    omega (arith, low, full, fits, filled)
one_zone true calls room room' most begun false lacked whole others fits filled =
    let kept = others refl in
    omega (arith, kept, fits, filled)
one_zone false calls room room' most begun true lacked whole others fits filled =
    let low = lacked refl in
    let full = whole refl in
    omega (arith, low, full, fits, filled)
one_zone false calls room room' most begun false lacked whole others fits filled =
    let kept = others refl in
    omega (arith, kept, fits, filled)

-- one call more is paid for
module _ {S : Type 0} (room_of : S → ℕ → ℕ) (free_of : S → ℕ) where
  pub paid_call : (first calls : ℕ) (most : ℕ → ℕ) (old new : S) → ((zone : ℕ) → most zone ≤ reserve_of zone)
      → Charges room_of free_of most old new → IsPaid first (free_of old) calls (room_of old)
      → IsPaid first (free_of new) (calls + 1) (room_of new)
  paid_call first calls most old new fits charged h =
      let paid = h.paid in
      let less = charged.paid in
      record {
        begun = λ zone. h.begun zone + one_for (charged.begun zone);
        filled = λ zone. one_zone (nat_eq zone 8) calls (room_of old zone) (room_of new zone) (most zone) (h.begun zone)
            (charged.begun zone) (charged.lacked zone) (charged.whole zone) (charged.others zone) (fits zone) (h.filled zone);
        paid = omega (arith, paid, less);
      }
