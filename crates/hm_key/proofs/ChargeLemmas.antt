-- What a call takes of the space, from its steps.
use Rattle.std.proofs.Common.{◌≡◌, ℕ, ◌+◌, ◌<◌, ◌≤◌, Bool, true, false, refl, sym, subst, ◌∙◌, arith}
use Rattle.std.specs.Prelude.{IsFalse, IsTrue, ◌&&◌, nat_lt, if◌then◌else◌}
use Rattle.std.proofs.lemmas.Bool.Decides.{nat_tests}
use Rattle.hm_types.specs.Space.{Admits, Spends, names_zone, needed, nothing, reserve_of}
use Rattle.hm_types.specs.declared.limits.TheConstants.{BIGBLOCK_BYTES}
use Rattle.hm_types.specs.declared.zones.Zones.{Zones}
use Rattle.hm_key.specs.Calls.{GetWhole}
use Rattle.hm_key.specs.Charges.{Charges, begun_in}

module _ {S : Type 0} (room_of : S → ℕ → ℕ) (free_of : S → ℕ) where
  -- a zone that was admitted began a big-block where it is named and lacked room
  abbrev begins : Zones → S → ℕ → Bool
  begins zones s zone = names_zone zones zone && nat_lt (room_of s zone) (reserve_of zone)

  both_true : (a b : Bool) → (a && b) ≡ true → (a ≡ true) × (b ≡ true)
  both_true true true is = (refl, refl)
  both_true true false is = cc
  both_true false b is = cc

  below_is : (m n : ℕ) → nat_lt m n ≡ true → m < n
  below_is m n is = grind (arith, nat_tests, is)

  -- zones were admitted
  pub charges_admitted : (zones : Zones) (held : ℕ) (s t : S) → Admits room_of free_of zones held s t → GetWhole zones (room_of s) (room_of t)
      → ((zone : ℕ) → room_of s zone ≤ room_of t zone) → Charges room_of free_of nothing s t
  charges_admitted zones held s t admits whole room = record {
    begun = begins zones s;
    lacked = λ zone is. below_is (room_of s zone) (reserve_of zone) (both_true _ _ is).1;
    whole = λ zone is. (let h = both_true _ _ is in
        let full = whole zone h.0 (below_is (room_of s zone) (reserve_of zone) h.1) in
        omega (arith, full));
    others = λ zone is. (let kept = room zone in omega (arith, kept));
    paid = admits.paid;
  }

  -- a call that began none
  pub charges_spends : (most : ℕ → ℕ) (s t : S) → Spends room_of free_of most s t → Charges room_of free_of most s t
  charges_spends most s t spends = record {
    begun = λ zone. false;
    lacked = λ zone is. cc;
    whole = λ zone is. cc;
    others = λ zone is. spends.room zone;
    paid = (let free = spends.free in omega (arith, free));
  }

  -- zones began big-blocks, and then bytes were taken
  pub charges_spent : (most : ℕ → ℕ) (s t u : S) → Charges room_of free_of nothing s t → Spends room_of free_of most t u
      → Charges room_of free_of most s u
  charges_spent most s t u charged spends = record {
    begun = charged.begun;
    lacked = charged.lacked;
    whole = λ zone is. (let full = charged.whole zone is in let left = spends.room zone in omega (arith, full, left));
    others = λ zone is. (let kept = charged.others zone is in let left = spends.room zone in omega (arith, kept, left));
    paid = (let paid = charged.paid in let free = spends.free in omega (arith, paid, free));
  }
