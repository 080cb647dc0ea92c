-- Elements that refer to an extent no more.
use Rattle.std.proofs.Common.{◌≡◌, ◌≢◌, ℕ, ◌+◌, ◌≤◌, List, [], ◌∷◌, true, false, true≢false, Bool, Option, Some}
use Rattle.std.proofs.Common.{None, refl, ap, sym, ◌∙◌, subst, arith, below_more}
use Rattle.std.specs.Prelude.{if◌then◌else◌, IfSome, IsSomeAnd, OnOk, Result, Err, Ok, is_some, option_map, slice_get}
use Rattle.std.proofs.lemmas.Bool.{eqb-false}
use Rattle.std.proofs.lemmas.List.Elements.{recursion_from_All}
use Rattle.hm_types.specs.Elements.{Key}
use Rattle.hm_types.specs.Space.{rounded}
use Rattle.hm_key.specs.Balance.{Balanced, IsBalanced, content_of}
use Rattle.hm_key.specs.Elements.{element_at, element_key, moved_to, stands_at, with_payload}
use Rattle.hm_key.specs.Extents.{AreExtents, Extent, IsExtent, extent_at}
use Rattle.hm_key.specs.declared.element.Element.{Element}
use Rattle.hm_key.proofs.BalanceLemmas.{extent_each}
use Rattle.hm_key.proofs.ElementLemmas.{stands_same}
use Rattle.hm_key.proofs.SweepLemmas.{held_live}
use Rattle.hm_reblock.specs.Choice.{IsStill, LiesThere, StandsStill}
use Rattle.hm_reblock.specs.Moving.{AllAway, AreTwins, IsAway, IsCopy, HasMovedTo, MovesElement, MovesTo, Relocates, move, none, stay}

-- an element at a key has it
key_at : (key : Key) (e : Element) (es : List Element) → element_at key es ≡ Some e → element_key e ≡ key
key_at key e [] found = absurd (cc)
key_at key e (y ∷ es) found = by_test (stands_at key y) refl found (key_at key e es) where
  by_test : (b : Bool) → stands_at key y ≡ b → (if b then Some y else element_at key es) ≡ Some e → (element_at key es ≡ Some e → element_key e ≡ key)
      → element_key e ≡ key
  by_test true is found more = let same : y ≡ e = cc in subst (λ (z : Element). element_key z ≡ key) same (stands_same key y is)
  by_test false is found more = more found

-- an element that moved is elsewhere
at_moved : (key : Key) (e : Element) (to : ℕ) (es : List Element) → element_at key es ≡ Some e
    → element_at key (with_payload key to es) ≡ Some (moved_to to e)
at_moved key e to [] found = absurd (cc)
at_moved key e to (y ∷ es) found = by_test (stands_at key y) refl found (at_moved key e to es) where
  by_test : (b : Bool) → stands_at key y ≡ b → (if b then Some y else element_at key es) ≡ Some e
      → (element_at key es ≡ Some e → element_at key (with_payload key to es) ≡ Some (moved_to to e))
      → element_at key (if b then moved_to to y ∷ es else y ∷ with_payload key to es) ≡ Some (moved_to to e)
  by_test true is found more = let same : y ≡ e = cc in rw is (ap (λ (z : Element). Some (moved_to to z)) same)
  by_test false is found more = rw is (more found)

-- so where a store told it
pub away_moved : (e : Element) (to : ℕ) (a b : Option (List Element)) → b ≡ option_map (with_payload (element_key e) to) a
    → IfSome a (λ es. element_at (element_key e) es ≡ Some e) → (is_some a ≡ true → to ≢ e.payload) → IfSome b (IsAway e.payload e)
away_moved e to None b same there apart = rw same tt
away_moved e to (Some es) b same there apart =
    rw same (rw (at_moved (element_key e) e to es there) (apart refl))

-- by what the call answered
pub away_given : {S A E : Type 0} (elements_of : S → Option (List Element)) (mark_of : S → Key → ℕ) (extents_of : S → Option (List Extent))
    (result : Result A E) (e : Element) (to : ℕ) (mid new : S) → OnOk result (MovesElement elements_of mark_of extents_of e to mid new)
    → IfSome (elements_of mid) (λ es. element_at (element_key e) es ≡ Some e) → (is_some (elements_of mid) ≡ true → to ≢ e.payload)
    → OnOk result (IfSome (elements_of new) (IsAway e.payload e))
away_given elements_of mark_of extents_of (Err error) e to mid new moves there apart = tt
away_given elements_of mark_of extents_of (Ok value) e to mid new moves there apart =
    away_moved e to (elements_of mid) (elements_of new) moves.elements there apart

-- what is away stays so where elements move away
away_still : (from to : ℕ) (known : Element) {es fs : List Element} → MovesTo from to es fs → IsAway from known es → IsAway from known fs
away_still from to known none away = away
away_still from to known (stay {e} {es} {fs} more) away = by_test (stands_at (element_key known) e) away (away_still from to known more) where
  by_test : (b : Bool) → IfSome (if b then Some e else element_at (element_key known) es) (λ x. x.payload ≢ from)
      → (IsAway from known es → IsAway from known fs) → IfSome (if b then Some e else element_at (element_key known) fs) (λ x. x.payload ≢ from)
  by_test true away more = away
  by_test false away more = more away
away_still from to known (move {e} {es} {fs} is more) away = by_test (stands_at (element_key known) e) away (away_still from to known more) where
  by_test : (b : Bool) → IfSome (if b then Some e else element_at (element_key known) es) (λ x. x.payload ≢ from)
      → (IsAway from known es → IsAway from known fs)
      → IfSome (if b then Some (moved_to to e) else element_at (element_key known) fs) (λ x. x.payload ≢ from)
  by_test true away more = absurd (away is)
  by_test false away more = more away

all_still : (from to : ℕ) (known : List Element) (at next : ℕ) {es fs : List Element} → MovesTo from to es fs → AllAway from known at next es
    → AllAway from known at next fs
all_still from to known at next {es} {fs} moves all k above below = by_known (slice_get known k) (all k above below) where
  by_known : (o : Option Element) → IfSome o (λ x. IsAway from x es) → IfSome o (λ x. IsAway from x fs)
  by_known None away = tt
  by_known (Some x) away = away_still from to x moves away

-- of a balanced store an element that does not stand still refers to its extent no more
pub away_none : (choice : List ℕ) (known : Element) (a : Option (List Element)) (o : Option (List Extent)) → is_some o ≡ is_some a → Balanced a o
    → IfSome o AreExtents → LiesThere choice known.payload → IfSome a (λ es. StandsStill choice es known None) → IfSome a (IsAway known.payload known)
away_none choice known None o together balanced live lies stands = tt
away_none choice known (Some es) None together balanced live lies stands = absurd (true≢false (sym together))
away_none choice known (Some es) (Some xs) together balanced live lies stands = by_element (element_at (element_key known) es) refl stands where
  by_extent : (e : Element) (x : Option Extent) → extent_at e.payload xs ≡ x → IsSomeAnd x (λ x. x.len ≡ rounded e.len) → 1 ≤ e.len
  by_extent e None found held = absurd held
  by_extent e (Some x) found held =
      let is = (extent_each IsExtent e.payload x xs (recursion_from_All IsExtent xs live.each) found).0 in
      let some = is.some in
      omega (arith, some, held)

  chosen : (e : Element) → element_at (element_key known) es ≡ Some e → e.payload ≡ known.payload → IsStill choice known e
  chosen e found same =
      let key : element_key e ≡ element_key known = key_at (element_key known) e es found in
      let there : element_at (element_key e) es ≡ Some e = subst (λ (k : Key). element_at k es ≡ Some e) (sym key) found in
      record {
        key = key;
        payload = same;
        chosen = record {
          some = by_extent e (extent_at e.payload xs) refl (held_live e (Some es) (Some xs) (Some xs) together refl balanced there);
          lies = subst (LiesThere choice) (sym same) lies;
        };
      }

  by_element : (f : Option Element) → element_at (element_key known) es ≡ f → IfSome f (λ e. IsStill choice known e → ⊥)
      → IfSome f (λ e. e.payload ≢ known.payload)
  by_element None found stands = tt
  by_element (Some e) found stands = λ same. stands (chosen e found same)

-- one more is away after a step
pub all_more : (from to : ℕ) (known : List Element) (x : Element) (at next : ℕ) (es fs : List Element) → MovesTo from to es fs
    → AllAway from known at next es → slice_get known next ≡ Some x → IsAway from x fs → AllAway from known at (next + 1) fs
all_more from to known x at next es fs moves all here away k above below =
    below_more (λ (k : ℕ). at ≤ k → IfSome (slice_get known k) (λ x. IsAway from x fs)) next (λ k less up. all_still from to known at next moves all k up less)
    (λ up. rw here away) k below above

-- the first one is
pub all_first : (from : ℕ) (known : List Element) (x : Element) (at : ℕ) (es : List Element) → slice_get known at ≡ Some x → IsAway from x es
    → AllAway from known at (at + 1) es
all_first from known x at es here away k above below = let same : k ≡ at = omega arith in rw (same, here) away

-- a twin is another extent
pub apart_told : (e : Element) (to : ℕ) (a : Option (List Element)) (o : Option (List Extent)) → is_some o ≡ is_some a → IfSome o (AreTwins 64 e.payload to)
    → is_some a ≡ true → to ≢ e.payload
apart_told e to a None together twins told = absurd (true≢false (sym told ∙ sym together))
apart_told e to a (Some xs) together twins told = eqb-false to e.payload twins.apart

pub apart_copied : (e : Element) (to : ℕ) (a : Option (List Element)) (o m : Option (List Extent)) → is_some o ≡ is_some a
    → IfSome o (λ xs. IsSomeAnd m (IsCopy e to xs)) → is_some a ≡ true → to ≢ e.payload
apart_copied e to a None m together came told = absurd (true≢false (sym told ∙ sym together))
apart_copied e to a (Some xs) None together came told = absurd came
apart_copied e to a (Some xs) (Some ys) together came told = eqb-false to e.payload came.twins.apart

-- what is so of an element that stands still is so of the one that was known
pub away_known : {A E : Type 0} (result : Result A E) (choice : List ℕ) (known e : Element) (o : Option (List Element)) → IsStill choice known e
    → OnOk result (IfSome o (IsAway e.payload e)) → OnOk result (IfSome o (IsAway known.payload known))
away_known (Err error) choice known e o still away = tt
away_known (Ok value) choice known e o still away = by_told o away where
  by_told : (o : Option (List Element)) → IfSome o (IsAway e.payload e) → IfSome o (IsAway known.payload known)
  by_told None away = tt
  by_told (Some es) away =
      subst (λ (at : ℕ). IfSome (element_at (element_key known) es) (λ x. x.payload ≢ at)) still.payload
      (subst (λ (k : Key). IfSome (element_at k es) (λ x. x.payload ≢ e.payload)) still.key away)

-- the first one is, where a store told it
pub all_begin : (choice : List ℕ) (known : List Element) (first : Element) (at : ℕ) (o : Option (List Element))
    → IsSomeAnd (slice_get known at) (λ x. IsStill choice x first) → IfSome o (IsAway first.payload first)
    → IfSome o (AllAway first.payload known at (at + 1))
all_begin choice known first at None still away = tt
all_begin choice known first at (Some es) still away = by_known (slice_get known at) refl still where
  by_known : (f : Option Element) → slice_get known at ≡ f → IsSomeAnd f (λ x. IsStill choice x first) → AllAway first.payload known at (at + 1) es
  by_known None here still = absurd still
  by_known (Some x) here still =
      all_first first.payload known x at es here
      (subst (λ (k : Key). IfSome (element_at k es) (λ y. y.payload ≢ first.payload)) still.key away)

-- one more is after a step over a balanced store
all_told : (from to : ℕ) (known : List Element) (x : Element) (at next : ℕ) (a b : Option (List Element)) (o n : Option (List Extent)) → is_some b ≡ is_some a
    → is_some n ≡ is_some o → is_some o ≡ is_some a
    → IfSome (content_of a o) (λ was. IsBalanced was.0 was.1 → IsSomeAnd (content_of b n) (HasMovedTo from to was)) → Balanced a o
    → IfSome a (AllAway from known at next) → slice_get known next ≡ Some x → IfSome b (IsAway from x) → IfSome b (AllAway from known at (next + 1))
all_told from to known x at next a None o n told also together moved balanced all here away = tt
all_told from to known x at next None (Some fs) o n told also together moved balanced all here away = absurd (true≢false told)
all_told from to known x at next (Some es) (Some fs) None n told also together moved balanced all here away = absurd (true≢false (sym together))
all_told from to known x at next (Some es) (Some fs) (Some xs) None told also together moved balanced all here away = absurd (true≢false (sym also))
all_told from to known x at next (Some es) (Some fs) (Some xs) (Some ys) told also together moved balanced all here away =
    all_more from to known x at next es fs (moved balanced).elements all here away

pub all_relocated : {S : Type 0} (elements_of : S → Option (List Element)) (mark_of : S → Key → ℕ) (extents_of : S → Option (List Extent)) (from to : ℕ)
    (known : List Element) (x : Element) (at next : ℕ) (old new : S) → is_some (extents_of old) ≡ is_some (elements_of old)
    → Relocates elements_of mark_of extents_of from to old new → Balanced (elements_of old) (extents_of old)
    → IfSome (elements_of old) (AllAway from known at next) → slice_get known next ≡ Some x → IfSome (elements_of new) (IsAway from x)
    → IfSome (elements_of new) (AllAway from known at (next + 1))
all_relocated elements_of mark_of extents_of from to known x at next old new together relocates balanced all here away =
    all_told from to known x at next (elements_of old) (elements_of new) (extents_of old) (extents_of new) relocates.elements relocates.extents together
    relocates.content balanced all here away
