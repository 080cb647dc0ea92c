-- The order of keys, by the numbers in them.
use Rattle.std.proofs.Common.{◌≡◌, ◌≢◌, ℕ, ◌+◌, ◌<◌, ◌≤◌, refl, ap, sym, inl, inr, true≢false, arith}
use Rattle.std.specs.Prelude.{◌⊎◌}
use Rattle.std.specs.Ordering.{nat_cmp, ordering_then, is_lt, is_gt}
use Rattle.std.specs.declared.cmp.Ordering.{Ordering}
use Rattle.std.specs.declared.cmp.Ordering.TheVariants.{Less, Equal, Greater}
use Rattle.std.proofs.lemmas.Cmp.{by_ranked, ranked}
use Rattle.hm_types.specs.Elements.{Key, key_cmp}
use Rattle.hm_key.specs.Key.{IsBefore, IsFrom, IsWide, IsNextKey, least_key, greatest_key}
use Rattle.hm_key.proofs.KeyLemmas.{key_from_fields}

-- the first field in which two keys differ rises, or else the ids stand in this relation
abbrev pub Rises : (ℕ → ℕ → Type 0) → Key → Key → Type 0
Rises Last a b =
    (a.localization < b.localization)
    ⊎ ((a.localization ≡ b.localization) × ((a.obj < b.obj)
    ⊎ ((a.obj ≡ b.obj) × ((a.rec_type < b.rec_type)
    ⊎ ((a.rec_type ≡ b.rec_type) × ((a.key < b.key) ⊎ ((a.key ≡ b.key) × Last a.create b.create)))))))

-- an order of two in turn that answers `Less`
less_then : {P : Type 0} (m n : ℕ) (s : Ordering) → (s ≡ Less → P) → ordering_then (nat_cmp m n) s ≡ Less → (m < n) ⊎ ((m ≡ n) × P)
less_then {P} m n s rest less =
    by_ranked (m < n) (m ≡ n) (n < m) (nat_cmp m n) (ranked m n (nat_cmp m n) refl)
    (λ _ below. inl below)
    (λ is same. inr (same, rest (rw is at less)))
    (λ is _. absurd (true≢false (ap is_gt (rw is at less))))

-- an order of two in turn that does not answer `Less`
not_less_then : {P : Type 0} (m n : ℕ) (s : Ordering) → (s ≢ Less → P) → ordering_then (nat_cmp m n) s ≢ Less → (n < m) ⊎ ((n ≡ m) × P)
not_less_then {P} m n s rest not =
    by_ranked (m < n) (m ≡ n) (n < m) (nat_cmp m n) (ranked m n (nat_cmp m n) refl)
    (λ is _. absurd (rw is at not refl))
    (λ is same. inr (sym same, rest (rw is at not)))
    (λ _ above. inl above)

-- numbers of which one is before another
less : (m n : ℕ) → nat_cmp m n ≡ Less → m < n
less m n is = rw is at (ranked m n (nat_cmp m n) refl)

-- numbers of which one is not before another
not_less : (m n : ℕ) → nat_cmp m n ≢ Less → n ≤ m
not_less m n not =
    by_ranked (m < n) (m ≡ n) (n < m) (nat_cmp m n) (ranked m n (nat_cmp m n) refl) (λ is _. absurd (not is)) (λ _ same. omega arith) (λ _ above. omega arith)

-- what is before a key, by its numbers
pub before_rises : (a b : Key) → IsBefore a b → Rises ◌<◌ a b
before_rises a b =
    less_then _ _ _ (less_then _ _ _ (less_then _ _ _ (less_then _ _ _ (less a.create b.create))))

-- what is a key or after it, by its numbers
pub from_rises : (a b : Key) → IsFrom a b → Rises ◌≤◌ a b
from_rises a b =
    not_less_then _ _ _ (not_less_then _ _ _ (not_less_then _ _ _ (not_less_then _ _ _ (not_less b.create a.create))))

-- a key that is not from another one is before it
pub before_unless : (a b : Key) → (IsFrom b a → ⊥) → IsBefore a b
before_unless a b not = by_order (key_cmp a b) refl where
  by_order : (o : Ordering) → key_cmp a b ≡ o → key_cmp a b ≡ Less
  by_order Less is = is
  by_order Equal is = absurd (not (λ before. true≢false (sym (ap is_lt (rw is at before)))))
  by_order Greater is = absurd (not (λ before. true≢false (sym (ap is_lt (rw is at before)))))

-- a key comes next after another one where no base's key stands between them
pub next_is : (a b : Key) → IsWide b → (IsFrom b a → ⊥) → ((key : Key) → IsWide key → IsBefore a key → IsBefore key b → ⊥) → IsNextKey a b
next_is a b wide up none = record { wide = wide; after = before_unless a b up; first = none }

-- no base's key is after the greatest one
pub wide_to_greatest : (key : Key) → IsWide key → IsFrom key greatest_key
wide_to_greatest key wide =
    key_from_fields key greatest_key (omega (arith, wide.localization)) (omega (arith, wide.obj)) (omega (arith, wide.rec_type)) (omega (arith, wide.number))
    (omega (arith, wide.create))

-- the next id
pub next_create : (a : Key) → IsWide (record a { create = a.create + 1 }) → IsNextKey a (record a { create = a.create + 1 })
next_create a wide = let b = record a { create = a.create + 1 } in
    next_is a b wide (λ from. let down = from_rises b a from in omega arith)
    (λ key narrow first second. let up = before_rises a key first in let on = before_rises key b second in omega arith)
