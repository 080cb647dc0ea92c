-- What a call takes of the space, from what its steps do.
use Rattle.std.proofs.Common.{◌≡◌, ℕ, ◌+◌, ◌<◌, ◌≤◌, Bool, true, false, Result, Ok, Err, refl, subst, ◌∙◌, arith}
use Rattle.std.specs.Prelude.{if◌then◌else◌, nat_eq}
use Rattle.hm_types.specs.Space.{Spends, nothing, reserve_of}
use Rattle.hm_types.specs.declared.limits.TheConstants.{BIGBLOCK_BYTES}
use Rattle.hm_types.specs.declared.space.TheConstants.{PAYLOAD_RESERVE, TREE_RESERVE}
use Rattle.hm_types.specs.declared.zone.TheConstants.{TREE_ZONE}
use Rattle.hm_key.specs.Charges.{Charges, begun_in}
use Rattle.hm_key.proofs.ChargeLemmas.{charges_spends, charges_spent}
use Rattle.hm_calls.specs.Space.{TakesAtMost}

either_fits : (tree : Bool) → (if tree then TREE_RESERVE else PAYLOAD_RESERVE) ≤ BIGBLOCK_BYTES
either_fits true = omega arith
either_fits false = omega arith

-- a big-block has room for each reserve
reserve_fits : (zone : ℕ) → reserve_of zone ≤ BIGBLOCK_BYTES
reserve_fits zone = either_fits (nat_eq zone TREE_ZONE)

-- two things that stay over two steps
pub both_stay : {A B : Type 0} {a1 a2 a3 : A} {b1 b2 b3 : B} → (a3 ≡ a2) × (b3 ≡ b2) → (a2 ≡ a1) × (b2 ≡ b1) → (a3 ≡ a1) × (b3 ≡ b1)
both_stay later first = (later.0 ∙ first.0, later.1 ∙ first.1)

module _ {S : Type 0} (room_of : S → ℕ → ℕ) (free_of : S → ℕ) where
  -- steps before left the space as it was
  pub charges_later : (most : ℕ → ℕ) (s t u : S) → room_of t ≡ room_of s → free_of t ≡ free_of s → Charges room_of free_of most t u
      → Charges room_of free_of most s u
  charges_later most s t u room free charged = record {
    begun = charged.begun;
    lacked = λ zone is. subst (λ (r : ℕ → ℕ). r zone < reserve_of zone) room (charged.lacked zone is);
    whole = charged.whole;
    others = λ zone is. subst (λ (r : ℕ → ℕ). r zone ≤ room_of u zone + most zone) room (charged.others zone is);
    paid = subst (λ (f : ℕ). f ≤ free_of u + begun_in charged.begun) free charged.paid;
  }

  -- the room falls by no more, since a big-block that was begun has more than there was
  pub charges_lower : (most : ℕ → ℕ) (s u : S) → Charges room_of free_of most s u → (zone : ℕ) → room_of s zone ≤ room_of u zone + most zone
  charges_lower most s u charged zone = by_zone (charged.begun zone) refl where
    by_zone : (begun : Bool) → charged.begun zone ≡ begun → room_of s zone ≤ room_of u zone + most zone
    by_zone true is =
        let lacked = charged.lacked zone is in
        let whole = charged.whole zone is in
        let fits = reserve_fits zone in
        omega (arith, lacked, whole, fits)
    by_zone false is = charged.others zone is

  -- a call that succeeds
  pub takes_charged : (most : ℕ → ℕ) (s u : S) {A E : Type 0} (x : A) → Charges room_of free_of most s u
      → TakesAtMost room_of free_of most s u {E = E} (Ok x)
  takes_charged most s u x charged = record { room = charges_lower most s u charged; charges = charged }

  -- it found the space as it was, and took bytes without an admission
  pub took_spent : (most : ℕ → ℕ) (s t u : S) → room_of t ≡ room_of s → free_of t ≡ free_of s → Spends room_of free_of most t u
      → Charges room_of free_of most s u
  took_spent most s t u room free spends = charges_later most s t u room free (charges_spends room_of free_of most t u spends)

  -- it was admitted, and then took bytes
  pub took_admitted : (most : ℕ → ℕ) (s t u v : S) → room_of t ≡ room_of s → free_of t ≡ free_of s → Charges room_of free_of nothing t u
      → Spends room_of free_of most u v → Charges room_of free_of most s v
  took_admitted most s t u v room free charged spends =
      charges_later most s t v room free (charges_spent room_of free_of most t u v charged spends)

  -- it left the space as it was
  pub took_nothing : (most : ℕ → ℕ) (s t : S) → room_of t ≡ room_of s → free_of t ≡ free_of s → Charges room_of free_of most s t
  took_nothing most s t room free = took_spent most s t t room free (record {
    room = λ zone. omega arith;
    free = omega arith;
  })

  -- it was admitted, and took no bytes
  pub took_room : (most : ℕ → ℕ) (s t u : S) → room_of t ≡ room_of s → free_of t ≡ free_of s → Charges room_of free_of nothing t u
      → Charges room_of free_of most s u
  took_room most s t u room free charged = took_admitted most s t u u room free charged (record {
    room = λ zone. omega arith;
    free = omega arith;
  })

  -- it only looked, whatever it answers
  pub takes_same : (most : ℕ → ℕ) (s t : S) {A E : Type 0} (result : Result A E) → room_of t ≡ room_of s → free_of t ≡ free_of s
      → TakesAtMost room_of free_of most s t result
  takes_same most s t (Ok x) room free = takes_charged most s t x (took_nothing most s t room free)
  takes_same most s t (Err e) room free = record {
    room = λ zone. subst (λ (r : ℕ → ℕ). r zone ≤ room_of t zone + most zone) room (omega arith);
    charges = tt;
  }
