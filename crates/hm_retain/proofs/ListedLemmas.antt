-- Listed ids that are walked in rising order.
use Rattle.std.proofs.Common.{◌≡◌, ℕ, zero, suc, ◌-◌, ◌<◌, ◌≤◌, ◌^◌, List, [], ◌∷◌, length, get_or, take, drop, true, Result, Ok, Err, IfOk, refl}
use Rattle.std.proofs.Common.{inl, inr, arith, ap}
use Rattle.std.specs.Prelude.{◌⊎◌, ◌↔◌}
use Rattle.std.specs.List.Sorted.{IsNonDecreasingBy}
use Rattle.std.specs.Ordering.{is_le, nat_cmp}
use Rattle.std.specs.List.{AllAdjacentBelow}
use Rattle.std.proofs.lemmas.List.{take_rest}
use Rattle.std.proofs.lemmas.List.Sorted.{IsNonDecreasingBy-from_all_adjacent, Contains-permutation, IsPermutation-sym}
use Rattle.std.proofs.lemmas.Map.Keys.{le_from_is_le}
use Rattle.std.specs.List.Sorted.{IsPermutation}
use Rattle.hm_types.specs.declared.id.Id.{Id}
use Rattle.hm_types.specs.Intervals.{Keeps}
use Rattle.hm_retain.specs.Intervals.{KeepsExactly}
use Rattle.hm_retain.specs.Growth.{BeginBy, Adds}
use Rattle.hm_retain.specs.Retention.{IsListed}
use Rattle.hm_retain.proofs.SetLemmas.{less_or_not, BeginBy-higher}

-- the id is one of these, by recursion
abbrev pub Lists : List Id → ℕ → Type 0
Lists [] id = ⊥
Lists (i ∷ is) id = (i.0 ≡ id) ⊎ Lists is id

-- ids that rise from one on, repeats allowed
abbrev pub IdsFrom : ℕ → List Id → Type 0
IdsFrom low [] = Unit {0}
IdsFrom low (i ∷ is) = (low ≤ i.0) × IdsFrom i.0 is

lists_at : (ids : List Id) (id : ℕ) (k : ℕ) → k < length ids → get_or ids k (record { 0 = id }) ≡ record { 0 = id } → Lists ids id
lists_at [] id k within found = absurd (omega arith)
lists_at (i ∷ is) id zero within found = inl (ap (λ (j : Id). j.0) found)
lists_at (i ∷ is) id (suc k) within found = inr (lists_at is id k (omega arith) found)

pub Lists-from_listed : (ids : List Id) (id : ℕ) → IsListed ids id → Lists ids id
Lists-from_listed ids id listed = lists_at ids id listed.0 listed.1 listed.2

pub Lists-to_listed : (ids : List Id) (id : ℕ) → Lists ids id → IsListed ids id
Lists-to_listed [] id lists = absurd lists
Lists-to_listed (i ∷ is) id (inl same) = (0, omega arith, ap (λ (n : ℕ). let j : Id = record { 0 = n } in j) same)
Lists-to_listed (i ∷ is) id (inr more) = let later : IsListed is id = Lists-to_listed is id more in (suc later.0, omega (arith, later.1), later.2)

IdsFrom-lower : (low high : ℕ) (ids : List Id) → low ≤ high → IdsFrom high ids → IdsFrom low ids
IdsFrom-lower low high [] le from = tt
IdsFrom-lower low high (i ∷ is) le from = (omega arith, from.1)

-- ids in order rise from the first on
pub IdsFrom-sorted : (low : ℕ) (ids : List Id) → IsNonDecreasingBy (λ (id : Id). id.0) ids → ((d : Id) → 0 < length ids → low ≤ (get_or ids 0 d).0)
    → IdsFrom low ids
IdsFrom-sorted low [] order first = tt
IdsFrom-sorted low (i ∷ is) order first = (
  first i (omega arith),
  IdsFrom-sorted i.0 is (λ j k d le within. order (suc j) (suc k) d (omega arith) (omega arith)) (λ d some. order 0 1 d (omega arith) (omega arith)),
)

-- `set` and the ids that are left below `from` are the listed ids below `from`, and later ids come
-- at the end of `set`
pub record IsListing (ids : List Id) (from : ℕ) (rest : List Id) (set : List (ℕ × ℕ)) : Type 0 where
  pub low : ℕ
  pub before : low ≤ from
  pub rises : IdsFrom low rest
  pub begin : BeginBy low set
  pub keeps : (id : ℕ) → ((Keeps set id ⊎ (Lists rest id × (id < from))) ↔ (Lists ids id × (id < from)))

-- nothing is walked yet
pub IsListing-none : (ids : List Id) (from : ℕ) → IsNonDecreasingBy (λ (id : Id). id.0) ids → IsListing ids from ids []
IsListing-none ids from order = record {
  low = 0;
  before = omega arith;
  rises = IdsFrom-sorted 0 ids order (λ d some. omega arith);
  begin = tt;
  keeps = λ id. (λ either. elim either [ inl none ↦ absurd none | inr rest ↦ rest ], λ rest. inr rest);
}

-- the next id may come at the end
pub IsListing-begin : (ids : List Id) (from : ℕ) (i : Id) (rest : List Id) (set : List (ℕ × ℕ)) → IsListing ids from (i ∷ rest) set → BeginBy i.0 set
IsListing-begin ids from i rest set listing = BeginBy-higher listing.low i.0 set listing.rises.0 listing.begin

-- an id below `from` is added
pub IsListing-add : (ids : List Id) (from : ℕ) (i : Id) (rest : List Id) (old new : List (ℕ × ℕ)) → IsListing ids from (i ∷ rest) old → i.0 < from
    → Adds (i.0, i.0) old new → IsListing ids from rest new
IsListing-add ids from i rest old new listing less adds = record {
  low = i.0;
  before = omega arith;
  rises = listing.rises.1;
  begin = adds.begin;
  keeps = λ id. (
    λ either. (listing.keeps id).0 (elim either [
      | inl kept ↦ elim ((adds.keeps id).0 kept) [ inl was ↦ inl was | inr held ↦ inr (inl (omega (arith, held.0, held.1)), omega (arith, held.0, held.1)) ]
      | inr more ↦ inr (inr more.0, more.1)
    ]),
    λ whole. elim ((listing.keeps id).1 whole) [
      | inl was ↦ inl ((adds.keeps id).1 (inl was))
      | inr more ↦ elim more.0 [
        | inl same ↦ inl ((adds.keeps id).1 (inr (omega (arith, same), omega (arith, same))))
        | inr later ↦ inr (later, more.1)
      ]
    ],
  );
}

-- an id from `from` on is left out
pub IsListing-skip : (ids : List Id) (from : ℕ) (i : Id) (rest : List Id) (set : List (ℕ × ℕ)) → IsListing ids from (i ∷ rest) set → from ≤ i.0
    → IsListing ids from rest set
IsListing-skip ids from i rest set listing le = record {
  low = listing.low;
  before = listing.before;
  rises = IdsFrom-lower listing.low i.0 rest listing.rises.0 listing.rises.1;
  begin = listing.begin;
  keeps = λ id. (
    λ either. (listing.keeps id).0 (elim either [ inl was ↦ inl was | inr more ↦ inr (inr more.0, more.1) ]),
    λ whole. elim ((listing.keeps id).1 whole) [
      | inl was ↦ inl was
      | inr more ↦ elim more.0 [ inl same ↦ absurd (omega (arith, same, more.1)) | inr later ↦ inr (later, more.1) ]
    ],
  );
}

-- all from `from` on may come at the end
pub IsListing-end_begin : (ids : List Id) (from : ℕ) (rest : List Id) (set : List (ℕ × ℕ)) → IsListing ids from rest set → BeginBy from set
IsListing-end_begin ids from rest set listing = BeginBy-higher listing.low from set listing.before listing.begin

-- all from `from` on are added
pub IsListing-end : (ids : List Id) (from last : ℕ) (old new : List (ℕ × ℕ)) → IsListing ids from [] old → last ≡ 2 ^ 64 - 1
    → Adds (from, last) old new → KeepsExactly new (λ id. IsListed ids id ⊎ (from ≤ id))
IsListing-end ids from last old new listing is_end adds id below = (
  λ kept. elim ((adds.keeps id).0 kept) [
    | inl was ↦ inl (Lists-to_listed ids id ((listing.keeps id).0 (inl was)).0)
    | inr held ↦ inr held.0
  ],
  λ either. elim either [
    | inl listed ↦ elim (less_or_not id from) [
      | inl less ↦ elim ((listing.keeps id).1 (Lists-from_listed ids id listed, less)) [
        | inl was ↦ (adds.keeps id).1 (inl was)
        | inr none ↦ absurd none.0
      ]
      | inr le ↦ (adds.keeps id).1 (inr (le, omega arith))
    ]
    | inr le ↦ (adds.keeps id).1 (inr (le, omega arith))
  ],
)

-- the loop's own form of the steps
pub listing_begin : (ids : List Id) (from : ℕ) (rest : List Id) (d : Id) (set : List (ℕ × ℕ)) → IsListing ids from rest set → 1 ≤ length rest
    → BeginBy (get_or rest 0 d).0 set
listing_begin ids from [] d set listing some = absurd (omega arith)
listing_begin ids from (i ∷ rest) d set listing some = IsListing-begin ids from i rest set listing

pub listing_add : (ids : List Id) (from : ℕ) (rest : List Id) (d : Id) (old new : List (ℕ × ℕ)) → IsListing ids from rest old → 1 ≤ length rest
    → (get_or rest 0 d).0 < from → Adds ((get_or rest 0 d).0, (get_or rest 0 d).0) old new → IsListing ids from (take (length rest - 1) (drop 1 rest)) new
listing_add ids from [] d old new listing some less adds = absurd (omega arith)
listing_add ids from (i ∷ rest) d old new listing some less adds = rw (take_rest (i ∷ rest) 1) (IsListing-add ids from i rest old new listing less adds)

pub listing_skip : (ids : List Id) (from : ℕ) (rest : List Id) (d : Id) (set : List (ℕ × ℕ)) → IsListing ids from rest set → 1 ≤ length rest
    → from ≤ (get_or rest 0 d).0 → IsListing ids from (take (length rest - 1) (drop 1 rest)) set
listing_skip ids from [] d set listing some le = absurd (omega arith)
listing_skip ids from (i ∷ rest) d set listing some le = rw (take_rest (i ∷ rest) 1) (IsListing-skip ids from i rest set listing le)

pub listing_end : (ids : List Id) (from : ℕ) (rest : List Id) (old new : List (ℕ × ℕ)) → IsListing ids from rest old → length rest < 1
    → Adds (from, 2 ^ 64 - 1) old new → KeepsExactly new (λ id. IsListed ids id ⊎ (from ≤ id))
listing_end ids from [] old new listing none adds = IsListing-end ids from (2 ^ 64 - 1) old new listing refl adds
listing_end ids from (i ∷ rest) old new listing none adds = absurd (omega arith)

-- what `is_sorted` answers of ids
pub sorted_ids : (ids : List Id) → AllAdjacentBelow (λ (x y : Id). is_le (nat_cmp x.0 y.0) ≡ true) ids (length ids) → IsNonDecreasingBy (λ (id : Id). id.0) ids
sorted_ids ids sorted = IsNonDecreasingBy-from_all_adjacent (λ (id : Id). id.0) ids (λ k d within. le_from_is_le _ _ (sorted k d within))

-- the order of the ids is all one to a set of them
pub exact_in_order : (ids sorted : List Id) (from : ℕ) (set : List (ℕ × ℕ)) → IsPermutation ids sorted
    → KeepsExactly set (λ id. IsListed sorted id ⊎ (from ≤ id)) → KeepsExactly set (λ id. IsListed ids id ⊎ (from ≤ id))
exact_in_order ids sorted from set moved exact id below =
    let i : Id = record { 0 = id } in (
      λ kept. elim ((exact id below).0 kept) [
        | inl listed ↦ inl (Contains-permutation sorted ids i (IsPermutation-sym ids sorted moved) listed)
        | inr le ↦ inr le
      ],
      λ either. (exact id below).1 (elim either [
        | inl listed ↦ inl (Contains-permutation ids sorted i moved listed)
        | inr le ↦ inr le
      ]),
    )

-- the same of an answer that may be an error
pub ok_in_order : {E : Type 0} (ids sorted : List Id) (from : ℕ) (result : Result (List (ℕ × ℕ)) E) → IsPermutation ids sorted
    → IfOk result (λ set. KeepsExactly set (λ id. IsListed sorted id ⊎ (from ≤ id)))
    → IfOk result (λ set. KeepsExactly set (λ id. IsListed ids id ⊎ (from ≤ id)))
ok_in_order ids sorted from (Ok set) moved exact = exact_in_order ids sorted from set moved exact
ok_in_order ids sorted from (Err error) moved exact = tt
