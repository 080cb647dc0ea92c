-- A search by halves for the least id from one on.
use Rattle.std.proofs.Common.{◌≡◌, ℕ, ◌+◌, ◌-◌, ◌<◌, ◌≤◌, List, [], ◌∷◌, ◌++◌, Option, Some, None, inl, inr, arith, length, get_or, take, drop, length-drop}
use Rattle.std.proofs.lemmas.List.{length-map, length-take, take_rest}
use Rattle.std.specs.Prelude.{◌⊎◌, ◌↔◌, IfSome}
use Rattle.hm_types.specs.declared.id.Id.{Id}
use Rattle.hm_types.specs.Intervals.{Holds, Keeps}
use Rattle.hm_retain.specs.Intervals.{numbers_of, IsInterval, RiseFrom}
use Rattle.hm_retain.specs.Retention.{IsFirstKept, IsRetention}
use Rattle.hm_retain.proofs.GrowthLemmas.{number_pair}
use Rattle.hm_retain.proofs.SearchLemmas.{RiseFrom-front, RiseFrom-back, is_interval_at, keeps_before, keeps_after, keeps_at, numbers_about}
use Rattle.hm_retain.proofs.SetLemmas.{less_or_not}

-- what the front of a rising list keeps is below each later interval
kept_below_next : (least : ℕ) (front : List (ℕ × ℕ)) (x : ℕ × ℕ) (back : List (ℕ × ℕ)) (id : ℕ) → RiseFrom least (front ++ x ∷ back) → Keeps front id → id < x.0
kept_below_next least [] x back id rise kept = absurd kept
kept_below_next least (y ∷ ys) x back id rise (inl held) =
    let here : IsInterval (y.1 + 2) x = is_interval_at (y.1 + 2) ys x back rise.1 in omega (arith, here.above, held.1)
kept_below_next least (y ∷ ys) x back id rise (inr kept) = kept_below_next (y.1 + 2) ys x back id rise.1 kept

-- the back of a list keeps what the list does
keeps_back : (front : List (ℕ × ℕ)) (x : ℕ × ℕ) (back : List (ℕ × ℕ)) (id : ℕ) → Keeps back id → Keeps (front ++ x ∷ back) id
keeps_back [] x back id kept = inr kept
keeps_back (y ∷ ys) x back id kept = inr (keeps_back ys x back id kept)

-- an id is from the one that was found on, if one was
abbrev pub IsFromFound : Option Id → ℕ → Type 0
IsFromFound None id = ⊥
IsFromFound (Some next) id = next.0 ≤ id

-- a kept id from one on, above all that a part of a list keeps
pub record IsAbovePart (list : List (ℕ × ℕ)) (from : ℕ) (part : List (ℕ × ℕ)) (next : Id) : Type 0 where
  pub onward : from ≤ next.0
  pub kept : Keeps list next.0
  pub above : (id : ℕ) → Keeps part id → id < next.0

-- what a list keeps from an id on is kept by a part of it, which rises, or comes from the id that was found on
pub record IsSought (list : List (ℕ × ℕ)) (from : ℕ) (part : List (Id × Id)) (next : Option Id) : Type 0 where
  pub least : ℕ
  pub few : length part ≤ 4096
  pub rises : RiseFrom least (numbers_of part)
  pub kept : (id : ℕ) → Keeps (numbers_of part) id → Keeps list id
  pub rest : (id : ℕ) → Keeps list id → from ≤ id → Keeps (numbers_of part) id ⊎ IsFromFound next id
  pub found : IfSome next (IsAbovePart list from (numbers_of part))

-- the whole list is searched
pub IsSought-all : (list : List (ℕ × ℕ)) (from : ℕ) (part : List (Id × Id)) → numbers_of part ≡ list → IsRetention (numbers_of part)
    → IsSought list from part None
IsSought-all list from part is retention = record {
  least = 0;
  few = omega (arith, retention.few, length-map part number_pair);
  rises = retention.intervals;
  kept = rw is (λ id kept. kept);
  rest = rw is (λ id kept later. inl kept);
  found = tt;
}

-- of what is kept from the id on, none comes before the middle but what stands there
before_middle : (next : Option Id) (list whole front : List (ℕ × ℕ)) (from first id : ℕ) → IfSome next (IsAbovePart list from whole)
    → Keeps whole first → (id < first → Keeps whole id → Keeps front id) → Keeps whole id ⊎ IsFromFound next id → Keeps front id ⊎ (first ≤ id)
before_middle next list whole front from first id found here narrow (inl kept) =
    elim (less_or_not id first) [ inl less ↦ inl (narrow less kept) | inr not ↦ inr not ]
before_middle None list whole front from first id found here narrow (inr later) = absurd later
before_middle (Some next) list whole front from first id found here narrow (inr later) = inr (omega (arith, found.above first here))

-- the search goes on before the middle
pub sought_before : (list : List (ℕ × ℕ)) (from : ℕ) (part : List (Id × Id)) (next : Option Id) (m : ℕ) (d : Id × Id) → IsSought list from part next
    → m < length part → from < (get_or part m d).0.0
    → IsSought list from (take m part) (Some (get_or part m d).0)
sought_before list from part next m d sought within less =
    let front : List (ℕ × ℕ) = numbers_of (take m part) in
    let x : ℕ × ℕ = number_pair (get_or part m d) in
    let back : List (ℕ × ℕ) = numbers_of (drop (m + 1) part) in
    let rise : RiseFrom sought.least (front ++ x ∷ back) = rw (numbers_about part m d within) at sought.rises in
    let kept : (id : ℕ) → Keeps (front ++ x ∷ back) id → Keeps list id = rw (numbers_about part m d within) at sought.kept in
    let rest : (id : ℕ) → Keeps list id → from ≤ id → Keeps (front ++ x ∷ back) id ⊎ IsFromFound next id = rw (numbers_about part m d within) at sought.rest in
    let found : IfSome next (IsAbovePart list from (front ++ x ∷ back)) = rw (numbers_about part m d within) at sought.found in
    let interval : IsInterval sought.least x = is_interval_at sought.least front x back rise in
    let begin : Keeps (front ++ x ∷ back) x.0 = keeps_at front x back x.0 (omega arith, interval.ordered) in
    let below : (id : ℕ) → Keeps front id → id < x.0 = λ id held. kept_below_next sought.least front x back id rise held in
    record {
      least = sought.least;
      few = omega (arith, sought.few, length-take m part);
      rises = RiseFrom-front sought.least front (x ∷ back) rise;
      kept = λ id held. kept id ((keeps_before sought.least front x back id rise (below id held)).1 held);
      rest = λ id held later.
          before_middle next list (front ++ x ∷ back) front from x.0 id found begin
          (λ under. (keeps_before sought.least front x back id rise under).0) (rest id held later);
      found = record { onward = omega arith; kept = kept x.0 begin; above = below };
    }

-- what is found above a part of a list is above each part of that
above_less : (next : Option Id) (list part less : List (ℕ × ℕ)) (from : ℕ) → ((id : ℕ) → Keeps less id → Keeps part id)
    → IfSome next (IsAbovePart list from part) → IfSome next (IsAbovePart list from less)
above_less None list part less from narrow found = tt
above_less (Some next) list part less from narrow found = record {
  onward = found.onward;
  kept = found.kept;
  above =
      λ id held. found.above id (narrow id held);
}

-- the search goes on after the middle
pub sought_after : (list : List (ℕ × ℕ)) (from : ℕ) (part : List (Id × Id)) (next : Option Id) (m : ℕ) (d : Id × Id) → IsSought list from part next
    → m < length part → (get_or part m d).1.0 < from
    → IsSought list from (take (length part - (m + 1)) (drop (m + 1) part)) next
sought_after list from part next m d sought within less =
    let front : List (ℕ × ℕ) = numbers_of (take m part) in
    let x : ℕ × ℕ = number_pair (get_or part m d) in
    let back : List (ℕ × ℕ) = numbers_of (drop (m + 1) part) in
    let rise : RiseFrom sought.least (front ++ x ∷ back) = rw (numbers_about part m d within) at sought.rises in
    let kept : (id : ℕ) → Keeps (front ++ x ∷ back) id → Keeps list id = rw (numbers_about part m d within) at sought.kept in
    let rest : (id : ℕ) → Keeps list id → from ≤ id → Keeps (front ++ x ∷ back) id ⊎ IsFromFound next id = rw (numbers_about part m d within) at sought.rest in
    let found : IfSome next (IsAbovePart list from (front ++ x ∷ back)) = rw (numbers_about part m d within) at sought.found in
    let after : IsSought list from (drop (m + 1) part) next = record {
      least = x.1 + 2;
      few = omega (arith, sought.few, length-drop (m + 1) part);
      rises = RiseFrom-back sought.least front x back rise;
      kept = λ id held. kept id (keeps_back front x back id held);
      rest = λ id held later. elim (rest id held later) [
        | inl whole ↦ inl ((keeps_after sought.least front x back id rise (omega arith)).0 whole)
        | inr beyond ↦ inr beyond
      ];
      found = above_less next list (front ++ x ∷ back) back from (keeps_back front x back) found;
    } in
    rw (take_rest part (m + 1)) after

-- the interval in the middle holds the id
pub sought_found : (list : List (ℕ × ℕ)) (from : ℕ) (part : List (Id × Id)) (next : Option Id) (m : ℕ) (d : Id × Id) → IsSought list from part next
    → m < length part
    → (get_or part m d).0.0 ≤ from → from ≤ (get_or part m d).1.0 → Keeps list from
sought_found list from part next m d sought within low high =
    let kept : (id : ℕ) → Keeps (numbers_of (take m part) ++ number_pair (get_or part m d) ∷ numbers_of (drop (m + 1) part)) id → Keeps list id =
    rw (numbers_about part m d within) at sought.kept in
    kept from (keeps_at (numbers_of (take m part)) (number_pair (get_or part m d)) (numbers_of (drop (m + 1) part)) from (low, high))

-- nothing is left to search
pub sought_end : (list : List (ℕ × ℕ)) (from : ℕ) (part : List (Id × Id)) (next : Option Id) → IsSought list from part next → length part ≡ 0
    → IsFirstKept list from next
sought_end list from (x ∷ xs) next sought none = absurd (omega arith)
sought_end list from [] None sought none = λ id kept. elim (less_or_not id from) [
  | inl less ↦ less
  | inr later ↦ elim (sought.rest id kept later) [ inl held ↦ absurd held | inr beyond ↦ absurd beyond ]
]
sought_end list from [] (Some next) sought none = record {
  onward = sought.found.onward;
  kept = sought.found.kept;
  least = λ id kept later. elim (sought.rest id kept later) [ inl held ↦ absurd held | inr beyond ↦ beyond ];
}
