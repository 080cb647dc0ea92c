-- A search by halves.
use Rattle.std.proofs.Common.{◌≡◌, ℕ, ◌+◌, ◌<◌, ◌≤◌, List, [], ◌∷◌, ◌++◌, inl, inr, arith, length, get_or, take, drop, ap, sym, ◌∙◌, ◌-◌, add-one, length-drop}
use Rattle.std.proofs.Math.Seq.{drop-cons}
use Rattle.std.proofs.lemmas.List.{length-map, length-take, map-append, take-append-drop, take_rest}
use Rattle.hm_types.specs.declared.id.Id.{Id}
use Rattle.std.specs.Prelude.{◌↔◌}
use Rattle.hm_types.specs.Intervals.{Holds, Keeps}
use Rattle.hm_retain.specs.Intervals.{numbers_of, IsInterval, RiseFrom}
use Rattle.hm_retain.specs.Retention.{IsRetention}
use Rattle.hm_retain.proofs.GrowthLemmas.{number_pair}
use Rattle.hm_retain.proofs.SetLemmas.{kept_from}

-- the front of a rising list
pub RiseFrom-front : (least : ℕ) (front back : List (ℕ × ℕ)) → RiseFrom least (front ++ back) → RiseFrom least front
RiseFrom-front least [] back rise = tt
RiseFrom-front least (x ∷ xs) back rise = (rise.0, RiseFrom-front (x.1 + 2) xs back rise.1)

-- what stands after an interval of a rising list
pub RiseFrom-back : (least : ℕ) (front : List (ℕ × ℕ)) (x : ℕ × ℕ) (back : List (ℕ × ℕ)) → RiseFrom least (front ++ x ∷ back) → RiseFrom (x.1 + 2) back
RiseFrom-back least [] x back rise = rise.1
RiseFrom-back least (y ∷ ys) x back rise = RiseFrom-back (y.1 + 2) ys x back rise.1

-- the interval stands in a rising list
pub is_interval_at : (least : ℕ) (front : List (ℕ × ℕ)) (x : ℕ × ℕ) (back : List (ℕ × ℕ)) → RiseFrom least (front ++ x ∷ back) → IsInterval least x
is_interval_at least [] x back rise = rise.0
is_interval_at least (y ∷ ys) x back rise =
    let later : IsInterval (y.1 + 2) x = is_interval_at (y.1 + 2) ys x back rise.1 in
    record { above = omega arith; ordered = later.ordered; bounded = later.bounded }

-- an id below an interval is kept exactly where what stands before keeps it
pub keeps_before : (least : ℕ) (front : List (ℕ × ℕ)) (x : ℕ × ℕ) (back : List (ℕ × ℕ)) (id : ℕ) → RiseFrom least (front ++ x ∷ back) → id < x.0
    → (Keeps (front ++ x ∷ back) id ↔ Keeps front id)
keeps_before least [] x back id rise less = (
  λ either. elim either [
    | inl held ↦ absurd (omega arith)
    | inr kept ↦ let above : x.1 + 2 ≤ id = kept_from (x.1 + 2) back id rise.1 kept in absurd (omega arith)
  ],
  λ none. absurd none,
)
keeps_before least (y ∷ ys) x back id rise less =
    let rest : Keeps (ys ++ x ∷ back) id ↔ Keeps ys id = keeps_before (y.1 + 2) ys x back id rise.1 less in (
      λ either. elim either [ inl held ↦ inl held | inr kept ↦ inr (rest.0 kept) ],
      λ either. elim either [ inl held ↦ inl held | inr kept ↦ inr (rest.1 kept) ],
    )

-- an id above an interval is kept exactly where what stands after keeps it
pub keeps_after : (least : ℕ) (front : List (ℕ × ℕ)) (x : ℕ × ℕ) (back : List (ℕ × ℕ)) (id : ℕ) → RiseFrom least (front ++ x ∷ back) → x.1 < id
    → (Keeps (front ++ x ∷ back) id ↔ Keeps back id)
keeps_after least [] x back id rise less = (
  λ either. elim either [ inl held ↦ absurd (omega arith) | inr kept ↦ kept ],
  λ kept. inr kept,
)
keeps_after least (y ∷ ys) x back id rise less =
    let rest : Keeps (ys ++ x ∷ back) id ↔ Keeps back id = keeps_after (y.1 + 2) ys x back id rise.1 less in
    let here : IsInterval (y.1 + 2) x = is_interval_at (y.1 + 2) ys x back rise.1 in (
      λ either. elim either [ inl held ↦ absurd (omega (arith, held.1)) | inr kept ↦ rest.0 kept ],
      λ kept. inr (rest.1 kept),
    )

-- an interval of a list keeps its ids
pub keeps_at : (front : List (ℕ × ℕ)) (x : ℕ × ℕ) (back : List (ℕ × ℕ)) (id : ℕ) → Holds x id → Keeps (front ++ x ∷ back) id
keeps_at [] x back id held = inl held
keeps_at (y ∷ ys) x back id held = inr (keeps_at ys x back id held)

-- a part of a list rises, and keeps the id exactly where the list does
pub record IsSearched (list : List (ℕ × ℕ)) (id : ℕ) (part : List (Id × Id)) : Type 0 where
  pub least : ℕ
  pub few : length part ≤ 4096
  pub rises : RiseFrom least (numbers_of part)
  pub keeps : Keeps (numbers_of part) id ↔ Keeps list id

-- the whole list is searched
pub IsSearched-all : (list : List (ℕ × ℕ)) (id : ℕ) (part : List (Id × Id)) → numbers_of part ≡ list → IsRetention (numbers_of part) → IsSearched list id part
IsSearched-all list id part is retention = record {
  least = 0;
  few = omega (arith, retention.few, length-map part number_pair);
  rises = retention.intervals;
  keeps = rw is (λ kept. kept, λ kept. kept);
}

-- a list about one of its pairs
pub numbers_about : (part : List (Id × Id)) (m : ℕ) (d : Id × Id) → m < length part
    → numbers_of part ≡ numbers_of (take m part) ++ number_pair (get_or part m d) ∷ numbers_of (drop (m + 1) part)
numbers_about part m d within =
    let whole : take m part ++ drop m part ≡ part = take-append-drop m part in
    let rest : drop m part ≡ get_or part m d ∷ drop (m + 1) part = rw add-one (drop-cons part m d within) in
    let both : take m part ++ (get_or part m d ∷ drop (m + 1) part) ≡ part = ap (λ r. take m part ++ r) (sym rest) ∙ whole in
    ap numbers_of (sym both) ∙ map-append number_pair (take m part) (get_or part m d ∷ drop (m + 1) part)

-- the search goes on before the middle
pub searched_before : (list : List (ℕ × ℕ)) (id : ℕ) (part : List (Id × Id)) (m : ℕ) (d : Id × Id) → IsSearched list id part → m < length part
    → id < (get_or part m d).0.0 → IsSearched list id (take m part)
searched_before list id part m d searched within less =
    let front : List (ℕ × ℕ) = numbers_of (take m part) in
    let x : ℕ × ℕ = number_pair (get_or part m d) in
    let back : List (ℕ × ℕ) = numbers_of (drop (m + 1) part) in
    let rise : RiseFrom searched.least (front ++ x ∷ back) = rw (numbers_about part m d within) at searched.rises in
    let keeps : Keeps (front ++ x ∷ back) id ↔ Keeps list id = rw (numbers_about part m d within) at searched.keeps in
    let same : Keeps (front ++ x ∷ back) id ↔ Keeps front id = keeps_before searched.least front x back id rise less in
    record {
      least = searched.least;
      few = omega (arith, searched.few, length-take m part);
      rises = RiseFrom-front searched.least front (x ∷ back) rise;
      keeps = (λ kept. keeps.0 (same.1 kept), λ kept. same.0 (keeps.1 kept));
    }

-- the search goes on after the middle
pub searched_after : (list : List (ℕ × ℕ)) (id : ℕ) (part : List (Id × Id)) (m : ℕ) (d : Id × Id) → IsSearched list id part → m < length part
    → (get_or part m d).1.0 < id → IsSearched list id (take (length part - (m + 1)) (drop (m + 1) part))
searched_after list id part m d searched within less =
    let front : List (ℕ × ℕ) = numbers_of (take m part) in
    let x : ℕ × ℕ = number_pair (get_or part m d) in
    let back : List (ℕ × ℕ) = numbers_of (drop (m + 1) part) in
    let rise : RiseFrom searched.least (front ++ x ∷ back) = rw (numbers_about part m d within) at searched.rises in
    let keeps : Keeps (front ++ x ∷ back) id ↔ Keeps list id = rw (numbers_about part m d within) at searched.keeps in
    let same : Keeps (front ++ x ∷ back) id ↔ Keeps back id = keeps_after searched.least front x back id rise less in
    let after : IsSearched list id (drop (m + 1) part) = record {
      least = x.1 + 2;
      few = omega (arith, searched.few, length-drop (m + 1) part);
      rises = RiseFrom-back searched.least front x back rise;
      keeps = (λ kept. keeps.0 (same.1 kept), λ kept. same.0 (keeps.1 kept));
    } in
    rw (take_rest part (m + 1)) after

-- the interval in the middle holds the id
pub searched_found : (list : List (ℕ × ℕ)) (id : ℕ) (part : List (Id × Id)) (m : ℕ) (d : Id × Id) → IsSearched list id part → m < length part
    → (get_or part m d).0.0 ≤ id → id ≤ (get_or part m d).1.0 → Keeps list id
searched_found list id part m d searched within low high =
    let keeps : Keeps (numbers_of (take m part) ++ number_pair (get_or part m d) ∷ numbers_of (drop (m + 1) part)) id ↔ Keeps list id =
    rw (numbers_about part m d within) at searched.keeps in
    keeps.0 (keeps_at (numbers_of (take m part)) (number_pair (get_or part m d)) (numbers_of (drop (m + 1) part)) id (low, high))
