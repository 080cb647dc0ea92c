-- What is seen in a page by a search for the last element up to a key is what its node has.
use Rattle.std.proofs.Common.{◌≡◌, Bool, true, false, not, true≢false, ℕ, zero, suc, ◌-◌, ◌<◌, ◌≤◌, inl, inr}
use Rattle.std.proofs.Common.{List, [], ◌∷◌, length, refl, sym, ap, subst, ◌∙◌, arith}
use Rattle.std.specs.Prelude.{Option, Some, None, IfSome, slice_get, slice_index_or}
use Rattle.std.specs.List.{AllWithin}
use Rattle.std.specs.List.Sorted.{IsStrictlySortedBy, IsPartitionedBy}
use Rattle.std.specs.Option.{option_or}
use Rattle.std.specs.Ordering.{is_lt}
use Rattle.std.proofs.lemmas.Bool.{cases_lt}
use Rattle.hm_types.specs.Elements.{Key, key_cmp}
use Rattle.hm_fields.specs.Pages.{PageMap}
use Rattle.hm_key.specs.Key.{IsBefore, IsFrom}
use Rattle.hm_key.specs.Elements.{element_cmp, element_key, stands_after, last_to}
use Rattle.hm_key.specs.Stores.{IsFoundTo}
use Rattle.hm_key.specs.declared.element.Element.{Element}
use Rattle.hm_key.proofs.KeyLemmas.{key_from_before}
use Rattle.hm_node.specs.Base.{base_in}
use Rattle.hm_node.specs.Leaf.{element_in, first_elements, ArePlaces}
use Rattle.hm_node.specs.Node.{HasFields, HasLevel}
use Rattle.hm_node.specs.Places.{place}
use Rattle.hm_node.specs.declared.inner.Inner.{Inner}
use Rattle.hm_node.specs.declared.leaf.Leaf.{Leaf}
use Rattle.hm_node.specs.declared.node.Node.{Node}
use Rattle.hm_node.specs.declared.node.Node.TheVariants.{Leaf as leaf_node, Inner as inner_node}
use Rattle.hm_node.proofs.PlaceLemmas.{first_length, first_at}
use Rattle.hm_search.specs.Descent.{PassesHere}
use Rattle.hm_search.specs.Look.{is_by, Falls, IsRank, IsTurn, Glances}
use Rattle.hm_search.specs.LookTo.{before_place, ShowsTo, ShowsLeafTo, ShowsInnerTo}
use Rattle.hm_search.specs.Place.{MeetsBy}
use Rattle.hm_search.specs.declared.look_to.SeenInnerTo.{SeenInnerTo}
use Rattle.hm_search.specs.declared.look_to.SeenTo.{SeenTo}
use Rattle.hm_search.specs.declared.look_to.SeenTo.TheVariants.{Leaf as leaf_seen, Inner as inner_seen}
use Rattle.hm_search.specs.declared.place_rule.PlaceRule.{PlaceRule}
use Rattle.hm_search.specs.declared.subtree.Subtree.{Subtree}
use Rattle.hm_search.proofs.ListLemmas.{sorted_pair}
use Rattle.hm_search.proofs.LookLemmas.{first_get}
use Rattle.hm_search.proofs.OrderLemmas.{from_is, from_not, from_trans}

-- the test of elements that do not stand after a key
abbrev pub stands_to : Key → Element → Bool
stands_to key e = not (stands_after key e)

-- the element before the place where the test changes
last_point : (key : Key) (es : List Element) (i : ℕ) → i ≤ length es → AllWithin (λ e. stands_to key e ≡ true) es 0 i
    → AllWithin (λ e. stands_to key e ≡ false) es i (length es) → last_to key es ≡ before_place es i
last_point key [] zero low passes fails = refl
last_point key [] (suc i) low passes fails = absurd (omega arith)
last_point key (e ∷ es) zero low passes fails =
    let here : stands_after key e ≡ true = turned (stands_after key e) (fails 0 e (omega arith) (omega arith)) in
    let rest : last_to key es ≡ None = last_point key es 0 (omega arith)
    (λ k d a b. absurd (omega arith)) (λ k d a b. fails (suc k) d (omega arith) (omega arith)) in
    rw (here, rest) refl where
      turned : (b : Bool) → not b ≡ false → b ≡ true
      turned true is = refl
      turned false is = absurd (true≢false is)
last_point key (e ∷ es) (suc i) low passes fails =
    let here : stands_after key e ≡ false = turned (stands_after key e) (passes 0 e (omega arith) (omega arith)) in
    let rest = last_point key es i (omega arith)
    (λ k d a b. passes (suc k) d (omega arith) (omega arith)) (λ k d a b. fails (suc k) d (omega arith) (omega arith)) in
    rw (here, rest) (at_place e es i (omega arith)) where
      turned : (b : Bool) → not b ≡ true → b ≡ false
      turned true is = absurd (true≢false (sym is))
      turned false is = refl

      at_place : (e : Element) (es : List Element) (i : ℕ) → i ≤ length es → option_or (before_place es i) (Some e) ≡ slice_get (e ∷ es) i
      at_place e es zero low = refl
      at_place e [] (suc i) low = absurd (omega arith)
      at_place e (x ∷ es) (suc i) low = there x es i (omega arith) where
        there : (x : Element) (es : List Element) (i : ℕ) → i ≤ length es → option_or (slice_get (x ∷ es) i) (Some e) ≡ slice_get (x ∷ es) i
        there x es zero low = refl
        there x [] (suc i) low = absurd (omega arith)
        there x (y ∷ es) (suc i) low = there y es i (omega arith)

to_parted : (key : Key) (es : List Element) → IsStrictlySortedBy element_cmp es → IsPartitionedBy (stands_to key) es
to_parted key es sorted i j d le high is =
    elim (cases_lt i j) [
      | inl below ↦
          let a = element_key (slice_index_or es i d) in
          let b = element_key (slice_index_or es j d) in
          let before : IsBefore a b = sorted_pair element_cmp es i j d sorted below high in
          let by : IsFrom b key = from_is key b (not_true (is_lt (key_cmp key b)) is) in
          ap not (from_not key a (from_trans a b key (key_from_before a b before) by))
      | inr same ↦ let one : i ≡ j = omega arith in rw one is
    ] where
      not_true : (b : Bool) → not b ≡ true → b ≡ false
      not_true true is = absurd (true≢false (sym is))
      not_true false is = refl

module _ (key : Key) (page : List ℕ) where
  leaf_test_to : (k : ℕ) → stands_to key (element_in page (place k)) ≡ is_by true key (base_in page (place k))
  unfolding element_in
  leaf_test_to k = refl

  leaf_read_to : (n k : ℕ) (d : Element) → k < n → stands_to key (slice_index_or (first_elements page n) k d) ≡ is_by true key (base_in page (place k))
  leaf_read_to n k d low = ap (stands_to key) (first_at (λ i. element_in page (place i)) n k d low) ∙ leaf_test_to k

  pub leaf_falls_to : (n : ℕ) → IsStrictlySortedBy element_cmp (first_elements page n) → Falls (λ i. is_by true key (base_in page (place i))) n
  leaf_falls_to n sorted i j le low is =
      let d = element_in page (place 0) in
      sym (leaf_read_to n i d (omega arith))
      ∙ to_parted key (first_elements page n) sorted i j d le (omega (arith, first_length (λ i. element_in page (place i)) n)) (leaf_read_to n j d low ∙ is)

  pub leaf_last : (n r : ℕ) → IsRank (λ i. is_by true key (base_in page (place i))) n r
      → before_place (first_elements page n) r ≡ last_to key (first_elements page n)
  leaf_last n r rank =
      let size = first_length (λ i. element_in page (place i)) n in
      sym (last_point key (first_elements page n) r (omega (arith, size, rank.bound))
      (λ k d a b. leaf_read_to n k d (omega (arith, rank.bound)) ∙ rank.before k b)
      (λ k d a b. leaf_read_to n k d (omega (arith, size)) ∙ rank.after k a (omega (arith, size))))

  -- the element before a turn is at the key or before it
  pub turn_found_to : (n r : ℕ) (found : Option Element) → ArePlaces page n → IsTurn (λ i. is_by true key (base_in page (place i))) n r
      → before_place (first_elements page n) r ≡ found → IfSome found (IsFoundTo key)
  turn_found_to n zero found places turn is = subst (λ (o : Option Element). IfSome o (IsFoundTo key)) is tt
  turn_found_to n (suc r) found places turn is =
      let e = element_in page (place r) in
      let low : r < n = omega (arith, turn.bound) in
      let same : suc r - 1 ≡ r = omega arith in
      let one : IsFoundTo key e = record {
        element = (places r low).placed.element;
        place = from_is key (element_key e) (not_true (stands_after key e) (leaf_test_to r
            ∙ subst (λ (k : ℕ). is_by true key (base_in page (place k)) ≡ true) same (turn.before (omega arith))));
      } in
      subst (λ (o : Option Element). IfSome o (IsFoundTo key)) (sym (first_get (λ i. element_in page (place i)) n r low) ∙ is) one where
        not_true : (b : Bool) → not b ≡ true → b ≡ false
        not_true true is = absurd (true≢false (sym is))
        not_true false is = refl

-- what stands before a place that is not the first
pub before_at : {A : Type 0} (xs : List A) (i : ℕ) (o : Option A) → 1 ≤ i → slice_get xs (i - 1) ≡ o → before_place xs i ≡ o
before_at xs zero o some is = absurd (omega arith)
before_at xs (suc i) o some is = let same : suc i - 1 ≡ i = omega arith in subst (λ (k : ℕ). slice_get xs k ≡ o) same is

-- what stands before a place that is there is that of a child
pub before_there : (places : List Subtree) (i : ℕ) (o : Option Subtree) → before_place places i ≡ o → IfSome o (λ s. (k : ℕ) × (slice_get places k ≡ Some s))
before_there places i None is = tt
before_there places zero (Some s) is = absurd cc
before_there places (suc i) (Some s) is = (i, is)

-- what a search sees of a leaf, or of an inner node
pub record GlancesLeafTo (s : Subtree) (told : Option PageMap) (key : Key) (found : Option Element) : Type 0 where
  pub leaf : Leaf
  pub there : IfSome told (λ map. PassesHere map s (leaf_node leaf))
  pub view : ShowsLeafTo key leaf found

pub record GlancesInnerTo (s : Subtree) (told : Option PageMap) (key : Key) (seen : SeenInnerTo) : Type 0 where
  pub inner : Inner
  pub level : HasLevel (inner_node inner)
  pub fields : HasFields (inner_node inner)
  pub meets : (rule : PlaceRule) → MeetsBy s (inner_node inner) rule
  pub there : IfSome told (λ map. PassesHere map s (inner_node inner))
  pub view : ShowsInnerTo key inner seen

pub glances_leaf_to : (s : Subtree) (told : Option PageMap) (key : Key) (seen : SeenTo) (found : Option Element) → seen ≡ leaf_seen found
    → Glances ShowsTo s told key seen → GlancesLeafTo s told key found
glances_leaf_to s told key seen found is glances = by_kind glances.node glances.there (subst (ShowsTo key glances.node) is glances.view) where
  by_kind : (node : Node) → IfSome told (λ map. PassesHere map s node) → ShowsTo key node (leaf_seen found) → GlancesLeafTo s told key found
  by_kind (leaf_node l) there view = record { leaf = l; there = there; view = view }
  by_kind (inner_node inner) there view = absurd view

pub glances_inner_to : (s : Subtree) (told : Option PageMap) (key : Key) (seen : SeenTo) (inner : SeenInnerTo) → seen ≡ inner_seen inner
    → Glances ShowsTo s told key seen → GlancesInnerTo s told key inner
glances_inner_to s told key seen inner is glances =
    by_kind glances.node glances.level glances.fields glances.meets glances.there (subst (ShowsTo key glances.node) is glances.view) where
      by_kind : (node : Node) → HasLevel node → HasFields node → ((rule : PlaceRule) → MeetsBy s node rule) → IfSome told (λ map. PassesHere map s node)
          → ShowsTo key node (inner_seen inner) → GlancesInnerTo s told key inner
      by_kind (leaf_node l) level fields meets there view = absurd view
      by_kind (inner_node x) level fields meets there view =
          record { inner = x; level = level; fields = fields; meets = meets; there = there; view = view }
