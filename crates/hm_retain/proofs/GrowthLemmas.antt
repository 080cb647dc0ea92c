-- A list of intervals that grows at its end.
use Rattle.std.proofs.Common.{◌≡◌, ℕ, ◌+◌, ◌<◌, ◌≤◌, ◌^◌, max, List, [], ◌∷◌, ◌++◌, inl, inr, arith, ap, sym, ◌∙◌, ◌-◌, length, get_or, take, drop}
use Rattle.std.specs.Prelude.{◌⊎◌, ◌↔◌}
use Rattle.std.proofs.lemmas.List.{map-append, take_rest}
use Rattle.hm_types.specs.declared.id.Id.{Id}
use Rattle.hm_types.specs.Intervals.{Holds, Keeps}
use Rattle.hm_retain.specs.Intervals.{numbers_of, IsInterval, RiseFrom, IsIntervals}
use Rattle.hm_retain.specs.Growth.{BeginBy, Adds}
use Rattle.hm_retain.proofs.SetLemmas.{less_or_not}

-- a fact beside both sides
beside : (P Q R S : Type 0) → (Q ↔ (R ⊎ S)) → ((P ⊎ Q) ↔ ((P ⊎ R) ⊎ S))
beside P Q R S same = (
  λ either. elim either [ inl p ↦ inl (inl p) | inr q ↦ elim (same.0 q) [ inl r ↦ inl (inr r) | inr s ↦ inr s ] ],
  λ either. elim either [ inl left ↦ elim left [ inl p ↦ inl p | inr r ↦ inr (same.1 (inl r)) ] | inr s ↦ inr (same.1 (inr s)) ],
)

-- an interval more
push_keeps : (list : List (ℕ × ℕ)) (n : ℕ × ℕ) (id : ℕ) → (Keeps (list ++ n ∷ []) id ↔ (Keeps list id ⊎ Holds n id))
push_keeps [] n id = (
  λ either. elim either [ inl held ↦ inr held | inr none ↦ absurd none ],
  λ either. elim either [ inl none ↦ absurd none | inr held ↦ inl held ],
)
push_keeps (x ∷ xs) n id = beside (Holds x id) (Keeps (xs ++ n ∷ []) id) (Keeps xs id) (Holds n id) (push_keeps xs n id)

push_begins : (list : List (ℕ × ℕ)) (n : ℕ × ℕ) → BeginBy n.0 list → BeginBy n.0 (list ++ n ∷ [])
push_begins [] n begin = (omega arith, tt)
push_begins (x ∷ xs) n begin = (begin.0, push_begins xs n begin.1)

-- a list that ends in an interval goes on rising with one that is not adjacent
pub push_rises : (least : ℕ) (front : List (ℕ × ℕ)) (last n : ℕ × ℕ) → RiseFrom least (front ++ last ∷ []) → IsInterval (last.1 + 2) n
    → RiseFrom least ((front ++ last ∷ []) ++ n ∷ [])
push_rises least [] last n rise is = (rise.0, (is, tt))
push_rises least (x ∷ xs) last n rise is = (rise.0, push_rises (x.1 + 2) xs last n rise.1 is)

-- an interval apart is added
pub push_adds : (list : List (ℕ × ℕ)) (n : ℕ × ℕ) → BeginBy n.0 list → Adds n list (list ++ n ∷ [])
push_adds list n begin = record { keeps = push_keeps list n; begin = push_begins list n begin }

-- the last interval grows
pub merge_rises : (least : ℕ) (front : List (ℕ × ℕ)) (last n : ℕ × ℕ) → RiseFrom least (front ++ last ∷ []) → n.1 < 2 ^ 64
    → RiseFrom least (front ++ (last.0, max last.1 n.1) ∷ [])
merge_rises least [] last n rise below = (record { above = rise.0.above; ordered = omega arith; bounded = omega arith }, tt)
merge_rises least (x ∷ xs) last n rise below = (rise.0, merge_rises (x.1 + 2) xs last n rise.1 below)

merged_holds : (last n : ℕ × ℕ) (id : ℕ) → last.0 ≤ n.0 → n.0 ≤ last.1 + 1 → Holds (last.0, max last.1 n.1) id → Holds last id ⊎ Holds n id
merged_holds last n id rise near held = elim (less_or_not last.1 id) [
  | inl above ↦ inr (omega arith, omega arith)
  | inr within ↦ inl (held.0, within)
]

merge_keeps : (front : List (ℕ × ℕ)) (last n : ℕ × ℕ) (id : ℕ) → BeginBy n.0 (front ++ last ∷ []) → n.0 ≤ last.1 + 1 → n.0 ≤ n.1
    → (Keeps (front ++ (last.0, max last.1 n.1) ∷ []) id ↔ (Keeps (front ++ last ∷ []) id ⊎ Holds n id))
merge_keeps [] last n id begin near ordered = (
  λ either. elim either [
    | inl held ↦ elim (merged_holds last n id begin.0 near held) [ inl old ↦ inl (inl old) | inr new ↦ inr new ]
    | inr none ↦ absurd none
  ],
  λ either. elim either [
    | inl old ↦ elim old [ inl held ↦ inl (held.0, omega (arith, held.1)) | inr none ↦ absurd none ]
    | inr held ↦ let low : last.0 ≤ n.0 = begin.0 in inl (omega arith, omega arith)
  ],
)
merge_keeps (x ∷ xs) last n id begin near ordered =
    beside (Holds x id) (Keeps (xs ++ (last.0, max last.1 n.1) ∷ []) id) (Keeps (xs ++ last ∷ []) id) (Holds n id)
    (merge_keeps xs last n id begin.1 near ordered)

merge_begins : (front : List (ℕ × ℕ)) (last n : ℕ × ℕ) → BeginBy n.0 (front ++ last ∷ []) → BeginBy n.0 (front ++ (last.0, max last.1 n.1) ∷ [])
merge_begins [] last n begin = (begin.0, tt)
merge_begins (x ∷ xs) last n begin = (begin.0, merge_begins xs last n begin.1)

-- an interval that meets the last one or is adjacent to it is added by letting that one grow
pub merge_adds : (front : List (ℕ × ℕ)) (last n : ℕ × ℕ) → BeginBy n.0 (front ++ last ∷ []) → n.0 ≤ last.1 + 1 → n.0 ≤ n.1
    → Adds n (front ++ last ∷ []) (front ++ (last.0, max last.1 n.1) ∷ [])
merge_adds front last n begin near ordered = record {
  keeps = λ id. merge_keeps front last n id begin near ordered;
  begin = merge_begins front last n begin;
}

-- the numbers of one pair
abbrev pub number_pair : Id × Id → ℕ × ℕ
number_pair pair = (pair.0.0, pair.1.0)

numbers_of-push : (front : List (Id × Id)) (pair : Id × Id) → numbers_of (front ++ pair ∷ []) ≡ numbers_of front ++ number_pair pair ∷ []
numbers_of-push front pair = map-append number_pair front (pair ∷ [])

-- the last pair is replaced by one that goes on to the end of `n`
pub merged : (items front new : List (Id × Id)) (last m n : Id × Id) → items ≡ front ++ last ∷ [] → new ≡ front ++ m ∷ [] → m.0.0 ≡ last.0.0
    → m.1.0 ≡ max last.1.0 n.1.0 → IsIntervals (numbers_of items) → BeginBy n.0.0 (numbers_of items) → n.0.0 ≤ last.1.0 + 1 → n.0.0 ≤ n.1.0
    → n.1.0 < 2 ^ 64 → IsIntervals (numbers_of new) × Adds (number_pair n) (numbers_of items) (numbers_of new)
merged items front new last m n was is first end rise begin near ordered below =
    let old : numbers_of items ≡ numbers_of front ++ number_pair last ∷ [] = ap numbers_of was ∙ numbers_of-push front last in
    let pair : number_pair m ≡ (last.0.0, max last.1.0 n.1.0) = cc in
    let now : numbers_of new ≡ numbers_of front ++ (last.0.0, max last.1.0 n.1.0) ∷ [] =
    ap numbers_of is ∙ (numbers_of-push front m ∙ ap (λ p. numbers_of front ++ p ∷ []) pair) in
    let risen : RiseFrom 0 (numbers_of front ++ number_pair last ∷ []) = rw (← old) rise in
    let begun : BeginBy n.0.0 (numbers_of front ++ number_pair last ∷ []) = rw (← old) begin in (
      rw now (merge_rises 0 (numbers_of front) (number_pair last) (number_pair n) risen below),
      rw (now, old) (merge_adds (numbers_of front) (number_pair last) (number_pair n) begun near ordered),
    )

-- the last pair stays, and another comes after it
pub parted : (items front new : List (Id × Id)) (last n : Id × Id) → items ≡ front ++ last ∷ [] → new ≡ (front ++ last ∷ []) ++ n ∷ []
    → IsIntervals (numbers_of items) → BeginBy n.0.0 (numbers_of items) → last.1.0 + 1 < n.0.0 → n.0.0 ≤ n.1.0 → n.1.0 < 2 ^ 64
    → IsIntervals (numbers_of new) × Adds (number_pair n) (numbers_of items) (numbers_of new)
parted items front new last n was is rise begin apart ordered below =
    let old : numbers_of items ≡ numbers_of front ++ number_pair last ∷ [] = ap numbers_of was ∙ numbers_of-push front last in
    let now : numbers_of new ≡ numbers_of items ++ number_pair n ∷ [] =
    ap numbers_of is ∙ (numbers_of-push (front ++ last ∷ []) n ∙ ap (λ l. numbers_of l ++ number_pair n ∷ []) (sym was)) in
    let risen : RiseFrom 0 (numbers_of front ++ number_pair last ∷ []) = rw (← old) rise in
    let more : RiseFrom 0 ((numbers_of front ++ number_pair last ∷ []) ++ number_pair n ∷ []) =
    push_rises 0 (numbers_of front) (number_pair last) (number_pair n) risen (record { above = omega arith; ordered = ordered; bounded = below }) in
    (rw (now, old) more, rw now (push_adds (numbers_of items) (number_pair n) begin))

-- the test of a list goes on to the next interval
pub rises_on : (list : List (Id × Id)) (d : Id × Id) (least : ℕ) (Rest : Type 0) → (RiseFrom least (numbers_of list) ↔ Rest) → 1 ≤ length list
    → IsInterval least (number_pair (get_or list 0 d)) → (RiseFrom ((get_or list 0 d).1.0 + 2) (numbers_of (take (length list - 1) (drop 1 list))) ↔ Rest)
rises_on [] d least Rest same some is = absurd (omega arith)
rises_on (x ∷ list) d least Rest same some is =
    rw (take_rest (x ∷ list) 1) (λ rise. same.0 (is, rise), λ rest. (same.1 rest).1)
