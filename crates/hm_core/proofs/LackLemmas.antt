-- Where one zone asks for its reserve and no big-block is free, that zone lacks it, and one big-block is needed.
use Rattle.std.proofs.Common.{◌≡◌, ℕ, ◌+◌, ◌-◌, ◌<◌, ◌&&◌, Bool, true, false, nat_lt, refl, subst, arith, cond}
use Rattle.std.proofs.lemmas.Bool.Decides.{nat_tests}
use Rattle.hm_types.specs.Space.{LacksSpace, names_zone, reserve_of}
use Rattle.hm_types.specs.declared.zones.Zones.{Zones}
use Rattle.hm_relocate.specs.Unit.{NamesOne}

-- a zone lacks its reserve, none is free, and one is needed
pub record LacksOne (zone : ℕ) (room : ℕ → ℕ) (free told : ℕ) : Type 0 where
  pub lacks : room zone < reserve_of zone
  pub none : free ≡ 0
  pub one : told ≡ 1

module _ (zones : Zones) (zone : ℕ) (one : NamesOne zones zone) (room : ℕ → ℕ) where
  -- whether a zone asks and lacks
  abbrev asks : ℕ → Bool
  asks k = names_zone zones k && nat_lt (room k) (reserve_of k)

  -- so it is the one, and that lacks
  abbrev Lacks : ℕ → Type 0
  Lacks k = (k ≡ zone) × (room zone < reserve_of zone)

  asks_so : (k : ℕ) → asks k ≡ true → Lacks k
  asks_so k = by (names_zone zones k) (nat_lt (room k) (reserve_of k)) refl refl where
    by : (named less : Bool) → names_zone zones k ≡ named → nat_lt (room k) (reserve_of k) ≡ less → (named && less) ≡ true → Lacks k
    by true true is under both =
        (one.alone k is, subst (λ (j : ℕ). room j < reserve_of j) (one.alone k is) (grind (arith, nat_tests, under)))
    by true false is under both = absurd cc
    by false less is under both = absurd cc

  pub lacks_one : (free told_free told : ℕ) → LacksSpace zones 0 room free told_free told → LacksOne zone room free told
  lacks_one free told_free told space =
      by (asks 8) (asks 9) (asks 10) (asks 11) (asks_so 8) (asks_so 9) (asks_so 10) (asks_so 11) space.needed space.lacks where
        by : (b c d e : Bool) → (b ≡ true → Lacks 8) → (c ≡ true → Lacks 9) → (d ≡ true → Lacks 10) → (e ≡ true → Lacks 11)
            → told ≡ cond b 1 0 + cond c 1 0 + cond d 1 0 + cond e 1 0 → free - 0 < told → LacksOne zone room free told
        by true true d e p q r s is less = absurd (let x = (p refl).0 in let y = (q refl).0 in omega (arith, x, y))
        by true false true e p q r s is less = absurd (let x = (p refl).0 in let y = (r refl).0 in omega (arith, x, y))
        by true false false true p q r s is less = absurd (let x = (p refl).0 in let y = (s refl).0 in omega (arith, x, y))
        by true false false false p q r s is less =
            record { lacks = (p refl).1; none = omega (arith, is, less); one = omega (arith, is) }
        by false true true e p q r s is less = absurd (let x = (q refl).0 in let y = (r refl).0 in omega (arith, x, y))
        by false true false true p q r s is less = absurd (let x = (q refl).0 in let y = (s refl).0 in omega (arith, x, y))
        by false true false false p q r s is less =
            record { lacks = (q refl).1; none = omega (arith, is, less); one = omega (arith, is) }
        by false false true true p q r s is less = absurd (let x = (r refl).0 in let y = (s refl).0 in omega (arith, x, y))
        by false false true false p q r s is less =
            record { lacks = (r refl).1; none = omega (arith, is, less); one = omega (arith, is) }
        by false false false true p q r s is less =
            record { lacks = (s refl).1; none = omega (arith, is, less); one = omega (arith, is) }
        by false false false false p q r s is less = absurd (omega (arith, is, less))
