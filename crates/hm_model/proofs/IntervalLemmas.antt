-- Lists of intervals: the ids that they keep, and the maximal intervals of some.
use Rattle.std.proofs.Common.{◌≡◌, ℕ, zero, suc, ◌+◌, ◌<◌, ◌≤◌, min, max, true, false, List, [], ◌∷◌, ◌++◌, length, get_or, map, refl, ap, inl, inr, arith}
use Rattle.std.specs.Prelude.{◌⊎◌, ◌↔◌, Bool, ◌||◌}
use Rattle.std.specs.Bool.{nat_le, nat_lt}
use Rattle.std.specs.List.{AllByRecursion, Contains, list_any}
use Rattle.std.proofs.lemmas.Bool.Decides.{nat_tests}
use Rattle.hm_types.specs.declared.id.Id.{Id}
use Rattle.hm_types.specs.Intervals.{Holds, Keeps}
use Rattle.hm_retain.specs.Intervals.{IsInterval, RiseFrom}
use Rattle.hm_retain.proofs.SetLemmas.{RiseFrom-lower, kept_below, less_or_not}
use Rattle.hm_model.specs.Cut.{maximal, single, with_interval, within}
use Rattle.hm_model.specs.Walk.{holds}

or_true : (b : Bool) → (b || true) ≡ true
or_true true = refl
or_true false = refl

-- an id that a list keeps is found in it
pub is_held : (list : List (ℕ × ℕ)) (id : ℕ) → Keeps list id → list_any (holds id) list ≡ true
is_held [] id kept = absurd kept
is_held (x ∷ xs) id (inl held) =
    let first : nat_le x.0 id ≡ true = grind (arith, nat_tests, held.0) in
    let last : nat_le id x.1 ≡ true = grind (arith, nat_tests, held.1) in
    rw (first, last) refl
is_held (x ∷ xs) id (inr kept) = rw (is_held xs id kept) (or_true (holds id x))

-- an id that is found in a list is kept by it
pub held_is : (list : List (ℕ × ℕ)) (id : ℕ) → list_any (holds id) list ≡ true → Keeps list id
held_is [] id found = absurd (cc)
held_is (x ∷ xs) id found = elim (less_or_not id x.0) [
  | inl less ↦ let no : nat_le x.0 id ≡ false = grind (arith, nat_tests, less) in inr (held_is xs id (rw no at found))
  | inr from ↦ elim (less_or_not x.1 id) [
    | inl above ↦
        let yes : nat_le x.0 id ≡ true = grind (arith, nat_tests, from) in
        let no : nat_le id x.1 ≡ false = grind (arith, nat_tests, above) in
        inr (held_is xs id (rw (yes, no) at found))
    | inr by ↦ inl (from, by)
  ]
]

-- an id that a list does not keep is not found in it
pub not_held : (list : List (ℕ × ℕ)) (id : ℕ) → (Keeps list id → ⊥) → list_any (holds id) list ≡ false
not_held list id none = by (list_any (holds id) list) refl
  where
    by : (test : Bool) → list_any (holds id) list ≡ test → list_any (holds id) list ≡ false
    by true is = absurd (none (held_is list id is))
    by false is = is

-- two lists together
pub Keeps-append : (xs ys : List (ℕ × ℕ)) (id : ℕ) → (Keeps (xs ++ ys) id ↔ (Keeps xs id ⊎ Keeps ys id))
Keeps-append [] ys id = (λ kept. inr kept, λ either. elim either [ inl none ↦ absurd none | inr kept ↦ kept ])
Keeps-append (x ∷ xs) ys id = (
  λ kept. elim kept [
    | inl held ↦ inl (inl held)
    | inr more ↦ elim ((Keeps-append xs ys id).0 more) [ inl in_xs ↦ inl (inr in_xs) | inr in_ys ↦ inr in_ys ]
  ],
  λ either. elim either [
    | inl left ↦ elim left [ inl held ↦ inl held | inr in_xs ↦ inr ((Keeps-append xs ys id).1 (inl in_xs)) ]
    | inr in_ys ↦ inr ((Keeps-append xs ys id).1 (inr in_ys))
  ],
)

-- two intervals that meet or touch, as one
joint : (new old : ℕ × ℕ) (id : ℕ) → old.0 ≤ new.1 + 1 → new.0 ≤ old.1 + 1 → Holds (min new.0 old.0, max new.1 old.1) id → Holds new id ⊎ Holds old id
joint new old id near close held = elim (less_or_not id new.0) [
  | inl less ↦ inr (omega arith, omega arith)
  | inr from ↦ elim (less_or_not new.1 id) [
    | inl above ↦ inr (omega arith, omega arith)
    | inr by ↦ inl (from, by)
  ]
]

joint_keeps : (new old : ℕ × ℕ) (more list : List (ℕ × ℕ)) (id : ℕ) → old.0 ≤ new.1 + 1 → new.0 ≤ old.1 + 1 →
    (Keeps list id ↔ (Holds (min new.0 old.0, max new.1 old.1) id ⊎ Keeps more id)) → (Keeps list id ↔ (Holds new id ⊎ Keeps (old ∷ more) id))
joint_keeps new old more list id near close same = (
  λ kept. elim (same.0 kept) [
    | inl held ↦ elim (joint new old id near close held) [ inl in_new ↦ inl in_new | inr in_old ↦ inr (inl in_old) ]
    | inr rest ↦ inr (inr rest)
  ],
  λ either. elim either [
    | inl held ↦ same.1 (inl (omega arith, omega arith))
    | inr kept ↦ elim kept [ inl held ↦ same.1 (inl (omega arith, omega arith)) | inr rest ↦ same.1 (inr rest) ]
  ],
)

later_keeps : (new old : ℕ × ℕ) (more list : List (ℕ × ℕ)) (id : ℕ) → (Keeps list id ↔ (Holds new id ⊎ Keeps more id)) →
    (Keeps (old ∷ list) id ↔ (Holds new id ⊎ Keeps (old ∷ more) id))
later_keeps new old more list id same = (
  λ kept. elim kept [
    | inl held ↦ inr (inl held)
    | inr rest ↦ elim (same.0 rest) [ inl in_new ↦ inl in_new | inr in_more ↦ inr (inr in_more) ]
  ],
  λ either. elim either [
    | inl held ↦ inr (same.1 (inl held))
    | inr kept ↦ elim kept [ inl held ↦ inl held | inr rest ↦ inr (same.1 (inr rest)) ]
  ],
)

-- with one more interval a list keeps its ids too
pub Keeps-with : (new : ℕ × ℕ) (list : List (ℕ × ℕ)) (id : ℕ) → (Keeps (with_interval new list) id ↔ (Holds new id ⊎ Keeps list id))
Keeps-with new [] id = (λ kept. kept, λ kept. kept)
Keeps-with new (old ∷ more) id = elim (less_or_not (new.1 + 1) old.0) [
  | inl before ↦
      let yes : nat_lt (new.1 + 1) old.0 ≡ true = grind (arith, nat_tests, before) in
      rw yes (λ kept. kept, λ kept. kept)
  | inr near ↦ elim (less_or_not (old.1 + 1) new.0) [
    | inl after ↦
        let no : nat_lt (new.1 + 1) old.0 ≡ false = grind (arith, nat_tests, near) in
        let yes : nat_lt (old.1 + 1) new.0 ≡ true = grind (arith, nat_tests, after) in
        rw (no, yes) (later_keeps new old more (with_interval new more) id (Keeps-with new more id))
    | inr close ↦
        let no : nat_lt (new.1 + 1) old.0 ≡ false = grind (arith, nat_tests, near) in
        let also : nat_lt (old.1 + 1) new.0 ≡ false = grind (arith, nat_tests, close) in
        let one : ℕ × ℕ = (min new.0 old.0, max new.1 old.1) in
        rw (no, also) (joint_keeps new old more (with_interval one more) id near close (Keeps-with one more id))
  ]
]

-- with one more interval a list still rises
pub RiseFrom-with : (least : ℕ) (new : ℕ × ℕ) (list : List (ℕ × ℕ)) → IsInterval least new → RiseFrom least list → RiseFrom least (with_interval new list)
RiseFrom-with least new [] is rise = (is, tt)
RiseFrom-with least new (old ∷ more) is rise = elim (less_or_not (new.1 + 1) old.0) [
  | inl before ↦
      let yes : nat_lt (new.1 + 1) old.0 ≡ true = grind (arith, nat_tests, before) in
      rw yes (is, (record { above = omega arith; ordered = rise.0.ordered; bounded = rise.0.bounded }, rise.1))
  | inr near ↦ elim (less_or_not (old.1 + 1) new.0) [
    | inl after ↦
        let no : nat_lt (new.1 + 1) old.0 ≡ false = grind (arith, nat_tests, near) in
        let yes : nat_lt (old.1 + 1) new.0 ≡ true = grind (arith, nat_tests, after) in
        rw (no, yes) (rise.0, RiseFrom-with (old.1 + 2) new more (record { above = omega arith; ordered = is.ordered; bounded = is.bounded }) rise.1)
    | inr close ↦
        let no : nat_lt (new.1 + 1) old.0 ≡ false = grind (arith, nat_tests, near) in
        let also : nat_lt (old.1 + 1) new.0 ≡ false = grind (arith, nat_tests, close) in
        rw (no, also) (RiseFrom-with least (min new.0 old.0, max new.1 old.1) more
        (record {
          above = omega (arith, is.above, rise.0.above);
          ordered = omega (arith, is.ordered, rise.0.ordered);
          bounded =
              omega (arith, is.bounded, rise.0.bounded);
        }) (RiseFrom-lower least (old.1 + 2) more (omega (arith, rise.0.above, rise.0.ordered)) rise.1))
  ]
]

-- maximal intervals keep the same ids
pub Keeps-maximal : (list : List (ℕ × ℕ)) (id : ℕ) → (Keeps (maximal list) id ↔ Keeps list id)
Keeps-maximal [] id = (λ kept. kept, λ kept. kept)
Keeps-maximal (x ∷ xs) id = (
  λ kept. elim ((Keeps-with x (maximal xs) id).0 kept) [ inl held ↦ inl held | inr rest ↦ inr ((Keeps-maximal xs id).0 rest) ],
  λ kept. (Keeps-with x (maximal xs) id).1 (elim kept [ inl held ↦ inl held | inr rest ↦ inr ((Keeps-maximal xs id).1 rest) ]),
)

-- and they rise, are apart and not adjacent
pub RiseFrom-maximal : (list : List (ℕ × ℕ)) → AllByRecursion (IsInterval 0) list → RiseFrom 0 (maximal list)
RiseFrom-maximal [] all = tt
RiseFrom-maximal (x ∷ xs) all = RiseFrom-with 0 x (maximal xs) all.0 (RiseFrom-maximal xs all.1)

-- each interval of a rising list is one
pub each_interval : (least : ℕ) (list : List (ℕ × ℕ)) → RiseFrom least list → AllByRecursion (IsInterval 0) list
each_interval least [] rise = tt
each_interval least (x ∷ xs) rise = (record { above = omega arith; ordered = rise.0.ordered; bounded = rise.0.bounded }, each_interval (x.1 + 2) xs rise.1)

pub both_intervals : (xs ys : List (ℕ × ℕ)) → AllByRecursion (IsInterval 0) xs → AllByRecursion (IsInterval 0) ys → AllByRecursion (IsInterval 0) (xs ++ ys)
both_intervals [] ys in_xs in_ys = in_ys
both_intervals (x ∷ xs) ys in_xs in_ys = (in_xs.0, both_intervals xs ys in_xs.1 in_ys)

-- what a list has between two ids
pub Keeps-within : (first last : ℕ) (list : List (ℕ × ℕ)) (id : ℕ) → (Keeps (within first last list) id ↔ (Keeps list id × (first ≤ id) × (id ≤ last)))
Keeps-within first last [] id = (λ kept. absurd kept, λ both. absurd both.0)
Keeps-within first last (x ∷ xs) id = elim (less_or_not (min last x.1) (max first x.0)) [
  | inl none ↦
      let no : nat_le (max first x.0) (min last x.1) ≡ false = grind (arith, nat_tests, none) in
      rw no (
        λ kept. let rest = (Keeps-within first last xs id).0 kept in (inr rest.0, rest.1, rest.2),
        λ both. elim both.0 [
          | inl held ↦ absurd (omega (arith, held.0, held.1, both.1, both.2))
          | inr rest ↦ (Keeps-within first last xs id).1 (rest, both.1, both.2)
        ],
      )
  | inr some ↦
      let yes : nat_le (max first x.0) (min last x.1) ≡ true = grind (arith, nat_tests, some) in
      rw yes (
        λ kept. elim kept [
          | inl held ↦ (inl (omega (arith, held.0, held.1), omega (arith, held.0, held.1)), omega (arith, held.0), omega (arith, held.1))
          | inr more ↦ let rest = (Keeps-within first last xs id).0 more in (inr rest.0, rest.1, rest.2)
        ],
        λ both. elim both.0 [
          | inl held ↦ inl (omega (arith, held.0, both.1), omega (arith, held.1, both.2))
          | inr rest ↦ inr ((Keeps-within first last xs id).1 (rest, both.1, both.2))
        ],
      )
]

pub within_intervals : (first last : ℕ) (list : List (ℕ × ℕ)) → AllByRecursion (IsInterval 0) list → AllByRecursion (IsInterval 0) (within first last list)
within_intervals first last [] all = tt
within_intervals first last (x ∷ xs) all = elim (less_or_not (min last x.1) (max first x.0)) [
  | inl none ↦
      let no : nat_le (max first x.0) (min last x.1) ≡ false = grind (arith, nat_tests, none) in
      rw no (within_intervals first last xs all.1)
  | inr some ↦
      let yes : nat_le (max first x.0) (min last x.1) ≡ true = grind (arith, nat_tests, some) in
      rw yes (record { above = omega arith; ordered = some; bounded = omega (arith, all.0.bounded) }, within_intervals first last xs all.1)
]

-- the id is one of these numbers
abbrev pub IsAmong : List ℕ → ℕ → Type 0
IsAmong [] id = ⊥
IsAmong (n ∷ ns) id = (n ≡ id) ⊎ IsAmong ns id

-- each listed id that a list keeps, alone
pub Keeps-single : (list : List (ℕ × ℕ)) (ids : List ℕ) (id : ℕ) → (Keeps (single list ids) id ↔ (Keeps list id × IsAmong ids id))
Keeps-single list [] id = (λ kept. absurd kept, λ both. absurd both.1)
Keeps-single list (n ∷ ns) id = by (list_any (holds n) list) refl (Keeps-single list ns id)
  where
    by : (test : Bool) → list_any (holds n) list ≡ test → (Keeps (single list ns) id ↔ (Keeps list id × IsAmong ns id)) →
        (Keeps (single list (n ∷ ns)) id ↔ (Keeps list id × IsAmong (n ∷ ns) id))
    by true is rest = rw is (
      λ kept. elim kept [
        | inl held ↦ let same : n ≡ id = omega (arith, held.0, held.1) in (rw (← same) (held_is list n is), inl same)
        | inr more ↦ let both = rest.0 more in (both.0, inr both.1)
      ],
      λ both. elim both.1 [
        | inl same ↦ inl (omega (arith, same), omega (arith, same))
        | inr more ↦ inr (rest.1 (both.0, more))
      ],
    )
    by false is rest = rw is (
      λ kept. let both = rest.0 kept in (both.0, inr both.1),
      λ both. elim both.1 [
        | inl same ↦ absurd (let found : list_any (holds n) list ≡ true = rw same (is_held list id both.0) in cc)
        | inr more ↦ rest.1 (both.0, more)
      ],
    )

pub single_intervals : (list : List (ℕ × ℕ)) (ids : List ℕ) → RiseFrom 0 list → AllByRecursion (IsInterval 0) (single list ids)
single_intervals list [] rise = tt
single_intervals list (n ∷ ns) rise = by (list_any (holds n) list) refl (single_intervals list ns rise)
  where
    by : (test : Bool) → list_any (holds n) list ≡ test → AllByRecursion (IsInterval 0) (single list ns) → AllByRecursion (IsInterval 0) (single list (n ∷ ns))
    by true is rest = rw is (record { above = omega arith; ordered = omega arith; bounded = kept_below 0 list n rise (held_is list n is) }, rest)
    by false is rest = rw is rest

-- an id is listed exactly where its number is among the numbers
listed_at : (ids : List Id) (id k : ℕ) → k < length ids → get_or ids k (record { 0 = id }) ≡ record { 0 = id } → IsAmong (map (λ (i : Id). i.0) ids) id
listed_at [] id k within is = absurd (omega arith)
listed_at (i ∷ ids) id zero within is = inl (ap (λ (j : Id). j.0) is)
listed_at (i ∷ ids) id (suc k) within is = inr (listed_at ids id k (omega arith) is)

abbrev pub id_of : ℕ → Id
id_of n = record { 0 = n }

pub among_listed : (ids : List Id) (id : ℕ) → IsAmong (map (λ (i : Id). i.0) ids) id → Contains ids (record { 0 = id })
among_listed [] id among = absurd among
among_listed (i ∷ ids) id (inl same) = (0, omega arith, ap id_of same)
among_listed (i ∷ ids) id (inr more) = let rest : Contains ids (record { 0 = id }) = among_listed ids id more in (suc rest.0, omega (arith, rest.1), rest.2)

pub listed_among : (ids : List Id) (id : ℕ) → Contains ids (record { 0 = id }) → IsAmong (map (λ (i : Id). i.0) ids) id
listed_among ids id has = listed_at ids id has.0 has.1 has.2
