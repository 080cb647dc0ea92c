-- The retentions that prunes leave, as the model has them.
use Rattle.std.proofs.Common.{◌≡◌, ℕ, ◌+◌, ◌-◌, ◌^◌, ◌<◌, ◌≤◌, List, [], ◌∷◌, Bool, true, false, length, map, max, min, refl, sym, ap, subst, ◌∙◌}
use Rattle.std.proofs.Common.{inl, inr, arith}
use Rattle.std.specs.Prelude.{◌⊎◌, if◌then◌else◌}
use Rattle.std.specs.Bool.{nat_le, nat_lt}
use Rattle.std.specs.List.{Contains}
use Rattle.std.specs.List.Sorted.{IsPermutation}
use Rattle.std.proofs.lemmas.List.Sorted.{Contains-permutation, IsPermutation-map, IsPermutation-sym}
use Rattle.hm_types.specs.Intervals.{Keeps, open_end}
use Rattle.hm_types.specs.declared.id.Id.{Id}
use Rattle.hm_retain.specs.Intervals.{IsIntervals}
use Rattle.hm_retain.specs.Retention.{IsCut, IsListed, IsRetention, IsTooMany}
use Rattle.hm_model.specs.Cut.{cut, greatest, maximal, pruned, with_interval, within}
use Rattle.hm_model.proofs.RetentionLemmas.{IsCut-cut, IsIntervals-cut, alone}
use Rattle.hm_records.specs.PfsRecord.{IsPfsRecord}
use Rattle.hm_records.specs.declared.pfs_record.PfsRecord.{PfsRecord}
use Rattle.hm_records.proofs.MemberLemmas.{has_cases, has_head, has_none, has_tail}

-- ---- numbers and ids

abbrev pub numbers : List Id → List ℕ
numbers ids = map (λ (id : Id). id.0) ids

abbrev id_of : ℕ → Id
id_of n = record { 0 = n }

ids_back : (ids : List Id) → map id_of (numbers ids) ≡ ids
ids_back [] = refl
ids_back (id ∷ ids) = ap (λ (l : List Id). id ∷ l) (ids_back ids)

numbers_back : (ns : List ℕ) → numbers (map id_of ns) ≡ ns
numbers_back [] = refl
numbers_back (n ∷ ns) = ap (λ (l : List ℕ). n ∷ l) (numbers_back ns)

-- ---- the greatest of some ids

below_greatest : (ids : List ℕ) (id : ℕ) → Contains ids id → id ≤ greatest ids
below_greatest [] id has = absurd (has_none id has)
below_greatest (x ∷ xs) id has = elim (has_cases x id xs has) [
  | inl first ↦ omega (arith, first)
  | inr later ↦ let rest : id ≤ greatest xs = below_greatest xs id later in omega (arith, rest)
]

greatest_below : (ids : List ℕ) (most : ℕ) → ((id : ℕ) → Contains ids id → id ≤ most) → greatest ids ≤ most
greatest_below [] most each = omega arith
greatest_below (x ∷ xs) most each =
    let first : x ≤ most = each x (has_head x xs) in
    let rest : greatest xs ≤ most = greatest_below xs most (λ id has. each id (has_tail x id xs has)) in
    omega (arith, first, rest)

greatest_moved : (a b : List ℕ) → IsPermutation a b → greatest a ≡ greatest b
greatest_moved a b moved =
    let up : greatest a ≤ greatest b =
    greatest_below a (greatest b) (λ id has. below_greatest b id (Contains-permutation a b id moved has)) in
    let down : greatest b ≤ greatest a =
    greatest_below b (greatest a) (λ id has. below_greatest a id (Contains-permutation b a id (IsPermutation-sym a b moved) has)) in
    omega (arith, up, down)

-- ---- cuts

-- a cut looks at which ids are listed, and at no order
cut_moved : (retention list : List (ℕ × ℕ)) (ids others : List Id) (from other : ℕ) → IsPermutation others ids → from ≡ other
    → IsCut retention ids from list → IsCut retention others other list
cut_moved retention list ids others from other moved same is id small = (
  λ kept. by_side ((is id small).0 kept),
  λ both. (is id small).1 (both.0, back both.1),
) where
  by_side : Keeps retention id × (IsListed ids id ⊎ (from ≤ id)) → Keeps retention id × (IsListed others id ⊎ (other ≤ id))
  by_side (kept, inl listed) = (kept, inl (Contains-permutation ids others (id_of id) (IsPermutation-sym others ids moved) listed))
  by_side (kept, inr later) = (kept, inr (omega (arith, later, same)))

  back : IsListed others id ⊎ (other ≤ id) → IsListed ids id ⊎ (from ≤ id)
  back (inl listed) = inl (Contains-permutation others ids (id_of id) moved listed)
  back (inr later) = inr (omega (arith, later, same))

-- the cut of a list is the one of the model
cut_is : (retention list : List (ℕ × ℕ)) (ids : List Id) (from : ℕ) → IsIntervals retention → IsIntervals list → IsCut retention ids from list
    → list ≡ cut retention (numbers ids) from
cut_is retention list ids from rise rise_list is =
    alone (λ (id : ℕ). Keeps retention id × (IsListed ids id ⊎ (from ≤ id))) list (cut retention (numbers ids) from) rise_list
    (IsIntervals-cut retention (numbers ids) from rise) is (IsCut-cut retention ids from)

-- what is cut to some ids in any order is what a prune leaves
pub pruned_is : (retention list : List (ℕ × ℕ)) (ids : List Id) (kept : List ℕ) → IsIntervals retention → IsIntervals list
    → IsPermutation kept (numbers ids) → IsCut retention ids (greatest (numbers ids)) list → list ≡ pruned retention kept
pruned_is retention list ids kept rise rise_list moved is =
    cut_is retention list (map id_of kept) (greatest kept) rise rise_list
    (cut_moved retention list ids (map id_of kept) (greatest (numbers ids)) (greatest kept)
    (subst (λ (l : List Id). IsPermutation (map id_of kept) l) (ids_back ids) (IsPermutation-map id_of kept (numbers ids) moved))
    (sym (greatest_moved kept (numbers ids) moved)) is)
    ∙ ap (λ (l : List ℕ). cut retention l (greatest kept)) (numbers_back kept)

-- what a master keeps from an id on, and what a slave keeps of its sync end
pub present_is : (retention list : List (ℕ × ℕ)) (id : ℕ) → IsIntervals retention → IsIntervals list → IsCut retention [] id list
    → list ≡ cut retention [] id
present_is retention list id rise rise_list is = cut_is retention list [] id rise rise_list is

pub synced_is : (retention list : List (ℕ × ℕ)) (id : Id) → IsIntervals retention → IsIntervals list → IsCut retention (id ∷ []) (2 ^ 64) list
    → list ≡ cut retention (id.0 ∷ []) (2 ^ 64)
synced_is retention list id rise rise_list is = cut_is retention list (id ∷ []) (2 ^ 64) rise rise_list is

-- ---- how many intervals are left

with_most : (new : ℕ × ℕ) (list : List (ℕ × ℕ)) → length (with_interval new list) ≤ length list + 1
with_most new [] = omega arith
with_most new (old ∷ more) =
    by (nat_lt (new.1 + 1) old.0) (nat_lt (old.1 + 1) new.0) (with_most new more) (with_most (min new.0 old.0, max new.1 old.1) more) where
      by : (before after : Bool) → length (with_interval new more) ≤ length more + 1
          → length (with_interval (min new.0 old.0, max new.1 old.1) more) ≤ length more + 1
          → length (if before then new ∷ old ∷ more else if after then old ∷ with_interval new more
          else with_interval (min new.0 old.0, max new.1 old.1) more) ≤ length (old ∷ more) + 1
      by true after rest joined = omega arith
      by false true rest joined = omega (arith, rest)
      by false false rest joined = omega (arith, joined)

maximal_most : (list : List (ℕ × ℕ)) → length (maximal list) ≤ length list
maximal_most [] = omega arith
maximal_most (x ∷ xs) =
    let rest : length (maximal xs) ≤ length xs = maximal_most xs in
    let more : length (with_interval x (maximal xs)) ≤ length (maximal xs) + 1 = with_most x (maximal xs) in
    omega (arith, rest, more)

within_most : (first last : ℕ) (list : List (ℕ × ℕ)) → length (within first last list) ≤ length list
within_most first last [] = omega arith
within_most first last (x ∷ xs) = by (nat_le (max first x.0) (min last x.1)) refl (within_most first last xs) where
  by : (some : Bool) → nat_le (max first x.0) (min last x.1) ≡ some → length (within first last xs) ≤ length xs
      → length (within first last (x ∷ xs)) ≤ length (x ∷ xs)
  by true is rest = rw is (omega (arith, rest))
  by false is rest = rw is (omega (arith, rest))

-- a cut that lists no id leaves no more than there were
pub never_many : (retention : List (ℕ × ℕ)) (id count : ℕ) → IsRetention retention → IsTooMany (IsCut retention [] id) count → ⊥
never_many retention id count was many =
    let same : many.list ≡ cut retention [] id = present_is retention many.list id was.intervals many.intervals many.meets in
    let cut_few : length (cut retention [] id) ≤ length (within id open_end retention) = maximal_most (within id open_end retention) in
    let few : length (within id open_end retention) ≤ length retention = within_most id open_end retention in
    absurd (omega (arith, ap length same, cut_few, few, was.few, many.many))

-- ---- records

-- a record with a cut of its retention is one still
pub cut_record : (was : PfsRecord) (ids : List Id) (from : ℕ) (list : List (ℕ × ℕ)) → IsPfsRecord was → IsRetention list
    → IsCut was.retention ids from list → (was.master ≡ true → from < 2 ^ 64) → IsPfsRecord (record was { retention = list })
cut_record was ids from list ranges small is late = record {
  shared = ranges.shared;
  sync_end = ranges.sync_end;
  retention = small;
  role = record {
    no_sync_end = ranges.role.no_sync_end;
    master_is_open = λ master.
        (is (2 ^ 64 - 1) (omega arith)).1 (ranges.role.master_is_open master, inr (let less = late master in omega (arith, less)));
    slave_is_not = λ slave opened. ranges.role.slave_is_not slave ((is (2 ^ 64 - 1) (omega arith)).0 opened).0;
  };
}
