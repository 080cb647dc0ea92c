-- What a search finds below a node, from what it finds below the child that holds the key.
use Rattle.std.proofs.Common.{◌≡◌, ◌≢◌, Bool, true, false, ℕ, zero, suc, ◌+◌, ◌<◌, ◌≤◌, List, [], ◌∷◌, ◌++◌, length, drop, refl, sym, ap, subst, ◌∙◌, arith}
use Rattle.std.proofs.Common.{if◌then◌else◌}
use Rattle.std.specs.Prelude.{Option, Some, None, Result, IfSome, IfOk, slice_get}
use Rattle.std.specs.List.{AllByRecursion, flat_map}
use Rattle.std.specs.List.Sorted.{IsStrictlySortedBy}
use Rattle.std.specs.Ordering.{is_lt}
use Rattle.std.proofs.lemmas.List.Elements.{recursion_from_All}
use Rattle.std.proofs.lemmas.Result.{IfOk-weaker}
use Rattle.hm_types.specs.Elements.{Key}
use Rattle.hm_types.specs.declared.fault.Fault.{Fault}
use Rattle.hm_fields.specs.Pages.{PageMap}
use Rattle.hm_key.specs.Key.{key_of, greatest_key, least_key, IsBefore, IsFrom}
use Rattle.hm_key.specs.Elements.{first_from}
use Rattle.hm_key.specs.Marks.{IsQuiet}
use Rattle.hm_key.specs.Places.{leading}
use Rattle.hm_key.specs.declared.base.Base.{Base}
use Rattle.hm_key.specs.declared.element.Element.{Element}
use Rattle.hm_key.proofs.KeyLemmas.{key_before_from, key_from_fields, key_not_before}
use Rattle.hm_node.specs.Base.{base_cmp}
use Rattle.hm_node.specs.Inner.{IsBound, IsChild, IsNodeOffset, HasInnerOrder}
use Rattle.hm_node.specs.Leaf.{HasLeafOrder}
use Rattle.hm_node.specs.Node.{IsNode, HasCount, HasFields}
use Rattle.hm_node.specs.declared.inner.Child.{Child}
use Rattle.hm_node.specs.declared.inner.Inner.{Inner}
use Rattle.hm_node.specs.declared.leaf.Leaf.{Leaf}
use Rattle.hm_node.specs.declared.node.Node.{Node}
use Rattle.hm_node.specs.declared.node.Node.TheVariants.{Leaf as leaf_node, Inner as inner_node}
use Rattle.hm_search.specs.Descent.{PassesHere}
use Rattle.hm_search.specs.Place.{BeginsAt, FitsBounds, IsInside, mirror_of}
use Rattle.hm_search.specs.Search.{begun, holder_place, IsAsked, IsPlaceOf, IsQuietBy}
use Rattle.hm_search.specs.Tree.{node_at, elements_in, mark_in, leaf_offset_in, starts_after, holder, at_holder, next_left, children_of, height_of}
use Rattle.hm_search.specs.Tree.{mark_of, root_place, IsTree, IsSoundTree, IsStoredTree}
use Rattle.hm_search.specs.declared.search.Found.{Found}
use Rattle.hm_search.specs.declared.subtree.Subtree.{Subtree}
use Rattle.hm_search.proofs.ChildLemmas.{bounds, later_sorted, next_by_right, place_is, at_holder_is, holder_place_within, holder_later}
use Rattle.hm_search.proofs.ContentLemmas.{AreInside, elements_inside}
use Rattle.hm_search.proofs.DescentLemmas.{child_stored}
use Rattle.hm_search.proofs.FirstLemmas.{first_found, first_none, drop_past, holder_next, first_from_holder}
use Rattle.hm_search.proofs.ListLemmas.{each_get, each_so}
use Rattle.hm_search.proofs.MarkLemmas.{mark_most}
use Rattle.hm_search.proofs.OrderLemmas.{from_is, from_trans}

-- the place of the child that holds a key is one of the node's
pub place_within : (node : Node) (inner : Inner) (key : Key) (place : ℕ) → IsNode node → node ≡ inner_node inner → place ≡ holder_place key inner.places.items
    → place < length inner.places.items
place_within node inner key place sound is at =
    let count = subst HasCount is sound.count in
    omega (arith, at, holder_place_within key inner.places.items count.0)

-- a child has a parent
pub child_has_parent : (inner : Inner) (i : ℕ) (child : Subtree) → slice_get (children_of inner) i ≡ Some child → child.parent ≢ None
child_has_parent inner i child get none =
    let here = place_is inner.level inner.right inner.places.items i child get in
    let parent : child.parent ≡ Some (record { level = inner.level; mirror = here.child.mirror }) = ap (λ (t : Subtree). t.parent) here.place in
    absurd cc

-- the elements, the mark and the leaf of a key below an inner node
pub elements_up : (map : PageMap) (height lower : ℕ) (s : Subtree) (inner : Inner) → height ≡ suc lower → node_at map s.at ≡ inner_node inner
    → elements_in map height (node_at map s.at) ≡ flat_map (λ (c : Child). elements_in map lower (node_at map c.child)) inner.places.items
elements_up map height lower s inner up is = ap (elements_in map height) is ∙ ap (λ (h : ℕ). elements_in map h (inner_node inner)) up

pub mark_up : (map : PageMap) (height lower : ℕ) (s : Subtree) (inner : Inner) (key : Key) → height ≡ suc lower → node_at map s.at ≡ inner_node inner
    → mark_in map height (node_at map s.at) key ≡ at_holder (λ (c : Child). mark_in map lower (node_at map c.child) key) key inner.places.items
mark_up map height lower s inner key up is = ap (λ (n : Node). mark_in map height n key) is ∙ ap (λ (h : ℕ). mark_in map h (inner_node inner) key) up

leaf_up : (map : PageMap) (height lower : ℕ) (s : Subtree) (inner : Inner) (key : Key) → height ≡ suc lower → node_at map s.at ≡ inner_node inner
    → leaf_offset_in map height s.at (node_at map s.at) key ≡ at_holder (λ (c : Child). leaf_offset_in map lower c.child (node_at map c.child) key) key
    inner.places.items
leaf_up map height lower s inner key up is =
    ap (λ (n : Node). leaf_offset_in map height s.at n key) is ∙ ap (λ (h : ℕ). leaf_offset_in map h s.at (inner_node inner) key) up

-- what a function gives at the child that holds a key, from its place
pub at_child : (f : ℕ → ℕ) (key : Key) (inner : Inner) (place : ℕ) (child : Subtree) → place ≡ holder_place key inner.places.items
    → slice_get (children_of inner) place ≡ Some child
    → at_holder (λ (c : Child). f c.child) key inner.places.items ≡ f child.at
at_child f key inner place child at get =
    let here = place_is inner.level inner.right inner.places.items place child get in
    at_holder_is (λ (c : Child). f c.child) key inner.places.items here.child (subst (λ (n : ℕ). slice_get inner.places.items n ≡ Some here.child) at here.is)
    ∙ ap (λ (t : Subtree). f t.at) (sym here.place)

-- the place of a key
pub place_up : (map : PageMap) (height lower : ℕ) (s child : Subtree) (inner : Inner) (key : Key) (place : ℕ) (found : Found) → height ≡ suc lower
    → node_at map s.at ≡ inner_node inner
    → place ≡ holder_place key inner.places.items → slice_get (children_of inner) place ≡ Some child → IsPlaceOf map lower child key found
    → IsPlaceOf map height s key found
place_up map height lower s child inner key place found up is at get below = record {
  leaf =
      below.leaf ∙ sym (leaf_up map height lower s inner key up is
      ∙ at_child (λ a. leaf_offset_in map lower a (node_at map a) key) key inner place child at get);
  place = below.place;
}

-- a node of a stored tree is in order
pub order_of : (map : PageMap) (height : ℕ) (s : Subtree) (inner : Inner) → IsStoredTree map height s → node_at map s.at ≡ inner_node inner
    → HasInnerOrder inner
order_of map height s inner stored read = (subst IsNode read stored.tree.sound).order

pub leaf_order_of : (map : PageMap) (height : ℕ) (s : Subtree) (leaf : Leaf) → IsStoredTree map height s → node_at map s.at ≡ leaf_node leaf → HasLeafOrder leaf
leaf_order_of map height s leaf stored read = (subst IsNode read stored.tree.sound).order

leaf_offset : (map : PageMap) (height at : ℕ) (leaf : Leaf) (key : Key) → leaf_offset_in map height at (leaf_node leaf) key ≡ at
leaf_offset map zero at leaf key = refl
leaf_offset map (suc height) at leaf key = refl

-- the place of a key in a leaf
pub leaf_place_told : (told : Option PageMap) (s : Subtree) (key : Key) (leaf : Leaf) (found : Found)
    → IfSome told (λ map. PassesHere map s (leaf_node leaf)) → found.leaf ≡ s.at
    → (HasLeafOrder leaf → found.place ≡ leading key leaf.places.items)
    → IfSome told (λ map. (height : ℕ) → IsStoredTree map height s → IsPlaceOf map height s key found)
leaf_place_told None s key leaf found here at place = tt
leaf_place_told (Some map) s key leaf found here at place = λ height stored.
    let read = (here.spelled stored.there).value in
    record {
      leaf = at ∙ sym (ap (λ (n : Node). leaf_offset_in map height s.at n key) read ∙ leaf_offset map height s.at leaf key);
      place = place (leaf_order_of map height s leaf stored read)
          ∙ ap (leading key) (sym (ap (λ (a : ℕ). elements_in map 0 (node_at map a)) at ∙ ap (elements_in map 0) read));
    }

-- a child of a node may stand where it is said to
pub child_spot : (inner : Inner) (i : ℕ) (child : Subtree) → HasFields (inner_node inner) → slice_get (children_of inner) i ≡ Some child → IsNodeOffset child.at
child_spot inner i child fields get =
    let here = place_is inner.level inner.right inner.places.items i child get in
    let one : IsChild here.child = each_get IsChild inner.places.items i here.child here.is (recursion_from_All IsChild inner.places.items fields.children) in
    subst (λ (t : Subtree). IsNodeOffset t.at) (sym here.place) one.child

pub find_told : (told now : Option PageMap) (s child : Subtree) (key : Key) (node : Node) (inner : Inner) (r : Result Found Fault) → now ≡ told
    → node ≡ inner_node inner
    → IfSome told (λ map. PassesHere map s node) → (HasInnerOrder inner → slice_get (children_of inner) (holder_place key inner.places.items) ≡ Some child)
    → IfSome now (λ map. (height : ℕ) → IsStoredTree map height child → IfOk r (IsPlaceOf map height child key))
    → IfSome told (λ map. (height : ℕ) → IsStoredTree map height s → IfOk r (IsPlaceOf map height s key))
find_told None now s child key node inner r same is here view clause = tt
find_told (Some map) now s child key node inner r same is here view clause = λ height stored.
    let place = holder_place key inner.places.items in
    let told = subst (λ (o : Option PageMap). IfSome o (λ m. (h : ℕ) → IsStoredTree m h child → IfOk r (IsPlaceOf m h child key))) same clause in
    let read = (here.spelled stored.there).value ∙ is in
    let get = view (order_of map height s inner stored read) in
    let below = child_stored map height s inner place child stored read get in
    IfOk-weaker r (IsPlaceOf map below.lower child key) (IsPlaceOf map height s key)
    (λ found is_place. place_up map height below.lower s child inner key place found below.is read refl get is_place) (told below.lower below.stored)

-- the elements of a leaf
pub leaf_elements : (map : PageMap) (height : ℕ) (leaf : Leaf) → elements_in map height (leaf_node leaf) ≡ leaf.places.items
leaf_elements map zero leaf = refl
leaf_elements map (suc height) leaf = refl

pub leaf_told : (told : Option PageMap) (s : Subtree) (key : Key) (node : Node) (leaf : Leaf) (found : Option Element) → node ≡ leaf_node leaf
    → IfSome told (λ map. PassesHere map s node)
    → (HasLeafOrder leaf → found ≡ first_from key leaf.places.items)
    → IfSome told (λ map. (height : ℕ) → IsStoredTree map height s → found ≡ first_from key (elements_in map height (node_at map s.at)))
leaf_told None s key node leaf found is here read = tt
leaf_told (Some map) s key node leaf found is here read = λ height stored.
    let here = (here.spelled stored.there).value ∙ is in
    read (leaf_order_of map height s leaf stored here) ∙ ap (first_from key) (sym (ap (elements_in map height) here ∙ leaf_elements map height leaf))

-- the first element from a key on below an inner node
pub first_up : (map : PageMap) (height lower : ℕ) (s child : Subtree) (inner : Inner) (key : Key) (place : ℕ) → height ≡ suc lower
    → node_at map s.at ≡ inner_node inner → IsTree map (suc lower) s (inner_node inner)
    → place ≡ holder_place key inner.places.items → slice_get (children_of inner) place ≡ Some child
    → first_from key (elements_in map height (node_at map s.at))
    ≡ first_from key (elements_in map lower (node_at map child.at) ++ flat_map (λ (c : Child). elements_in map lower (node_at map c.child))
    (drop (suc place) inner.places.items))
first_up map height lower s child inner key place up is tree at get =
    let here = place_is inner.level inner.right inner.places.items place child get in
    let inside = each_so (IsStoredTree map lower) (λ c. AreInside c.left c.right (elements_in map lower (node_at map c.at))) (children_of inner)
    (λ c stored. elements_inside map lower c (node_at map c.at) stored.tree) tree.below in
    let held = subst (λ (n : ℕ). slice_get inner.places.items n ≡ Some here.child) at here.is in
    ap (first_from key) (elements_up map height lower s inner up is)
    ∙ first_from_holder (λ a. elements_in map lower (node_at map a)) inner.level inner.right key inner.places.items here.child tree.sound.order inside held
    ∙ ap (λ (n : ℕ). first_from key (elements_in map lower (node_at map here.child.child) ++ flat_map
    (λ (c : Child). elements_in map lower (node_at map c.child)) (drop (suc n) inner.places.items))) (sym at)
    ∙ ap (λ (t : Subtree). first_from key (elements_in map lower (node_at map t.at) ++ flat_map (λ (c : Child). elements_in map lower (node_at map c.child))
    (drop (suc place) inner.places.items))) (sym here.place)

-- Where the child that holds the key has an element from it on, that one is the first.
pub first_some_told : (told now : Option PageMap) (s child : Subtree) (key : Key) (node : Node) (inner : Inner) (found : Option Element) (e : Element)
    → now ≡ told → node ≡ inner_node inner
    → IfSome told (λ map. PassesHere map s node) → (HasInnerOrder inner → slice_get (children_of inner) (holder_place key inner.places.items) ≡ Some child)
    → found ≡ Some e
    → IfSome now (λ map. (height : ℕ) → IsStoredTree map height child → found ≡ first_from key (elements_in map height (node_at map child.at)))
    → IfSome told (λ map. (height : ℕ) → IsStoredTree map height s → Some e ≡ first_from key (elements_in map height (node_at map s.at)))
first_some_told None now s child key node inner found e same is here view some clause = tt
first_some_told (Some map) now s child key node inner found e same is here view some clause = λ height stored.
    let place = holder_place key inner.places.items in
    let told = subst (λ (o : Option PageMap). IfSome o (λ m. (h : ℕ) → IsStoredTree m h child → found ≡ first_from key (elements_in m h (node_at m child.at))))
    same clause in
    let read = (here.spelled stored.there).value ∙ is in
    let order = order_of map height s inner stored read in
    let get = view order in
    let below = child_stored map height s inner place child stored read get in
    sym (first_up map height below.lower s child inner key place below.is read below.tree refl get
    ∙ first_found key e (elements_in map below.lower (node_at map child.at))
    (flat_map (λ (c : Child). elements_in map below.lower (node_at map c.child)) (drop (suc place) inner.places.items))
    (sym (told below.lower below.stored) ∙ some))

-- Where it has none and is the last, there is none.
pub first_last_told : (told now : Option PageMap) (s child : Subtree) (key : Key) (node : Node) (inner : Inner) (found : Option Element) → now ≡ told
    → node ≡ inner_node inner
    → IfSome told (λ map. PassesHere map s node) → (HasInnerOrder inner → slice_get (children_of inner) (holder_place key inner.places.items) ≡ Some child)
    → found ≡ None
    → (HasInnerOrder inner → length inner.places.items ≤ holder_place key inner.places.items + 1)
    → IfSome now (λ map. (height : ℕ) → IsStoredTree map height child → found ≡ first_from key (elements_in map height (node_at map child.at)))
    → IfSome told (λ map. (height : ℕ) → IsStoredTree map height s → None ≡ first_from key (elements_in map height (node_at map s.at)))
first_last_told None now s child key node inner found same is here view none last clause = tt
first_last_told (Some map) now s child key node inner found same is here view none last clause = λ height stored.
    let place = holder_place key inner.places.items in
    let told = subst (λ (o : Option PageMap). IfSome o (λ m. (h : ℕ) → IsStoredTree m h child → found ≡ first_from key (elements_in m h (node_at m child.at))))
    same clause in
    let read = (here.spelled stored.there).value ∙ is in
    let order = order_of map height s inner stored read in
    let get = view order in
    let below = child_stored map height s inner place child stored read get in
    let rest : drop (suc place) inner.places.items ≡ [] = drop_past inner.places.items (suc place) (omega (arith, last order)) in
    sym (first_up map height below.lower s child inner key place below.is read below.tree refl get
    ∙ first_none key (elements_in map below.lower (node_at map child.at))
    (flat_map (λ (c : Child). elements_in map below.lower (node_at map c.child)) (drop (suc place) inner.places.items))
    (sym (told below.lower below.stored) ∙ none)
    ∙ ap (λ (cs : List Child). first_from key (flat_map (λ (c : Child). elements_in map below.lower (node_at map c.child)) cs)) rest)

-- the child after the one that holds a key begins after the key
pub next_after : (inner : Inner) (key : Key) (place : ℕ) (next : Subtree) → place ≡ holder_place key inner.places.items
    → slice_get (children_of inner) (place + 1) ≡ Some next → IsBefore key (key_of next.left)
next_after inner key place next at get =
    let here = place_is inner.level inner.right inner.places.items (place + 1) next get in
    let after : place + 1 ≡ suc (holder_place key inner.places.items) = omega (arith, at) in
    subst (λ (t : Subtree). IsBefore key (key_of t.left)) (sym here.place)
    (holder_next key inner.places.items here.child (subst (λ (n : ℕ). slice_get inner.places.items n ≡ Some here.child) after here.is))

-- A node whose `mirror` is low enough is quiet as a whole.
pub quiet_told : (told : Option PageMap) (s : Subtree) (at : Key) (since : ℕ) (node : Node) → mirror_of node ≤ since
    → IfSome told (λ map. PassesHere map s node)
    → IfSome told (λ map. (height : ℕ) → IsStoredTree map height s → IsQuietBy (mark_in map height (node_at map s.at)) at since s.right (Some s.right))
quiet_told None s at since node low here = tt
quiet_told (Some map) s at since node low here = λ height stored. record {
  quiet = λ key from before.
      let most = mark_most map key height s (node_at map s.at) stored.tree in
      let same : mirror_of (node_at map s.at) ≡ mirror_of node = ap mirror_of (here.spelled stored.there).value in
      omega arith;
  within = key_not_before (key_of s.right);
}

-- A leaf whose `mirror` is not has no end.
leaf_mark : (map : PageMap) (height : ℕ) (leaf : Leaf) (key : Key) → mark_in map height (leaf_node leaf) key ≡ leaf.mirror
leaf_mark map zero leaf key = refl
leaf_mark map (suc height) leaf key = refl

pub leaf_quiet_told : (told : Option PageMap) (s : Subtree) (at : Key) (since : ℕ) (leaf : Leaf) → since < leaf.mirror
    → IfSome told (λ map. PassesHere map s (leaf_node leaf))
    → IfSome told (λ map. (height : ℕ) → IsStoredTree map height s → IsQuietBy (mark_in map height (node_at map s.at)) at since s.right None)
leaf_quiet_told None s at since leaf high here = tt
leaf_quiet_told (Some map) s at since leaf high here = λ height stored.
    let same : mark_in map height (node_at map s.at) at ≡ leaf.mirror =
    ap (λ (n : Node). mark_in map height n at) (here.spelled stored.there).value ∙ leaf_mark map height leaf at in
    record { quiet = subst (λ (n : ℕ). since < n) (sym same) high; within = tt }

-- keys between two others that one child holds are held by it too
holder_span : (key at : Key) (right : Base) (c : Child) (cs : List Child) → IsFrom at key
    → IsBefore key (key_of (next_left right (drop (suc (begun at cs)) (c ∷ cs)))) → holder key c cs ≡ holder at c cs
holder_span key at right c [] from before = refl
holder_span key at right c (d ∷ ds) from before = by_test (starts_after at d) refl before (holder_span key at right d ds from) where
  by_test : (b : Bool) → starts_after at d ≡ b → IsBefore key (key_of (next_left right (drop (suc (if b then 0 else suc (begun at ds))) (c ∷ d ∷ ds))))
      → (IsBefore key (key_of (next_left right (drop (suc (begun at ds)) (d ∷ ds)))) → holder key d ds ≡ holder at d ds)
      → holder key c (d ∷ ds) ≡ (if b then c else holder at d ds)
  by_test true is before more = let starts : starts_after key d ≡ true = ap is_lt before in rw starts refl
  by_test false is before more = holder_later key c d ds (from_trans (key_of d.left) at key (from_is at (key_of d.left) is) from) ∙ more before

span_same : (f : Child → ℕ) (key at : Key) (right : Base) (cs : List Child) → IsFrom at key
    → IsBefore key (key_of (next_left right (drop (suc (holder_place at cs)) cs))) → at_holder f key cs ≡ at_holder f at cs
span_same f key at right [] from before = refl
span_same f key at right (c ∷ cs) from before = ap f (holder_span key at right c cs from before)

-- what is quiet below the child that holds the key is quiet below the node
pub quiet_up : (map : PageMap) (height lower : ℕ) (s child : Subtree) (inner : Inner) (at : Key) (since place : ℕ) (end : Option Base) → height ≡ suc lower
    → node_at map s.at ≡ inner_node inner
    → place ≡ holder_place at inner.places.items → slice_get (children_of inner) place ≡ Some child → IfSome end (λ e. IsFrom (key_of e) (key_of child.right))
    → IsQuiet (mark_in map lower (node_at map child.at)) at since end → IsQuiet (mark_in map height (node_at map s.at)) at since end
quiet_up map height lower s child inner at since place None up is held get ends quiet =
    let same = mark_up map height lower s inner at up is ∙ at_child (λ a. mark_in map lower (node_at map a) at) at inner place child held get in
    subst (λ (n : ℕ). since < n) (sym same) quiet
quiet_up map height lower s child inner at since place (Some end) up is held get ends quiet = λ key from before.
    let here = place_is inner.level inner.right inner.places.items place child get in
    let bound : child.right ≡ next_left inner.right (drop (suc place) inner.places.items) = ap (λ (t : Subtree). t.right) here.place in
    let by : IsBefore key (key_of (next_left inner.right (drop (suc (holder_place at inner.places.items)) inner.places.items))) =
    subst (λ (n : ℕ). IsBefore key (key_of (next_left inner.right (drop (suc n) inner.places.items)))) held
    (subst (λ (b : Base). IsBefore key (key_of b)) bound (key_before_from key (key_of end) (key_of child.right) before ends)) in
    let same = mark_up map height lower s inner key up is
    ∙ span_same (λ (c : Child). mark_in map lower (node_at map c.child) key) key at inner.right inner.places.items from by
    ∙ at_child (λ a. mark_in map lower (node_at map a) key) at inner place child held get in
    subst (λ (n : ℕ). n ≤ since) (sym same) (quiet key from before)

next_is_bound : (right : Base) (cs : List Child) (n : ℕ) → IsBound right → AllByRecursion IsChild cs → IsBound (next_left right (drop n cs))
next_is_bound right [] zero last each = last
next_is_bound right [] (suc n) last each = last
next_is_bound right (c ∷ cs) zero last each = each.0.left
next_is_bound right (c ∷ cs) (suc n) last each = next_is_bound right cs n last each.1

pub child_bound : (child : Subtree) (inner : Inner) (place : ℕ) → HasFields (inner_node inner) → slice_get (children_of inner) place ≡ Some child
    → IsBound child.right
child_bound child inner place fields get =
    let here = place_is inner.level inner.right inner.places.items place child get in
    subst (λ (t : Subtree). IsBound t.right) (sym here.place)
    (next_is_bound inner.right inner.places.items (suc place) fields.right (recursion_from_All IsChild inner.places.items fields.children))

drop_by_right : (right : Base) (cs : List Child) (n : ℕ) → IsStrictlySortedBy base_cmp (bounds right cs)
    → IsFrom (key_of (next_left right (drop n cs))) (key_of right)
drop_by_right right [] zero sorted = key_not_before (key_of right)
drop_by_right right [] (suc n) sorted = key_not_before (key_of right)
drop_by_right right (c ∷ cs) zero sorted = next_by_right right (c ∷ cs) sorted
drop_by_right right (c ∷ cs) (suc n) sorted = drop_by_right right cs n (later_sorted right c cs sorted)

-- the right boundary of a child is not after that of its node
pub right_low : (s child : Subtree) (inner : Inner) (place : ℕ) → HasInnerOrder inner → FitsBounds s.left s.right (inner_node inner)
    → slice_get (children_of inner) place ≡ Some child
    → IsFrom (key_of child.right) (key_of s.right)
right_low s child inner place order bounds_of get =
    let here = place_is inner.level inner.right inner.places.items place child get in
    subst (λ (t : Subtree). IsFrom (key_of t.right) (key_of s.right)) (sym here.place)
    (subst (λ (k : Key). IsFrom (key_of (next_left inner.right (drop (suc place) inner.places.items))) k) bounds_of.1
    (drop_by_right inner.right inner.places.items (suc place) order))

-- what is quiet below the child that holds the key, where the pages are told
pub quiet_below_told : (told now : Option PageMap) (s child : Subtree) (at : Key) (since : ℕ) (inner : Inner) (r : Result (Option Base) Fault) → now ≡ told
    → IfSome told (λ map. PassesHere map s (inner_node inner))
    → (HasInnerOrder inner → slice_get (children_of inner) (holder_place at inner.places.items) ≡ Some child)
    → IfSome now (λ map. (height : ℕ) → IsStoredTree map height child → IfOk r (IsQuietBy (mark_in map height (node_at map child.at)) at since child.right))
    → IfSome told (λ map. (height : ℕ) → IsStoredTree map height s → IfOk r (IsQuietBy (mark_in map height (node_at map s.at)) at since s.right))
quiet_below_told None now s child at since inner r same here view clause = tt
quiet_below_told (Some map) now s child at since inner r same here view clause = λ height stored.
    let told = subst (λ (o : Option PageMap). IfSome o (λ m. (h : ℕ) → IsStoredTree m h child → IfOk r
    (IsQuietBy (mark_in m h (node_at m child.at)) at since child.right))) same clause in
    let place = holder_place at inner.places.items in
    let read = (here.spelled stored.there).value in
    let order = order_of map height s inner stored read in
    let get = view order in
    let below = child_stored map height s inner place child stored read get in
    let low = right_low s child inner place order (subst (FitsBounds s.left s.right) read stored.tree.fits.bounds) get in
    IfOk-weaker r (IsQuietBy (mark_in map below.lower (node_at map child.at)) at since child.right)
    (IsQuietBy (mark_in map height (node_at map s.at)) at since s.right)
    (λ end by. record {
      quiet = quiet_up map height below.lower s child inner at since place end below.is read refl get by.within by.quiet;
      within = wider end low by.within;
    }) (told below.lower below.stored) where
      wider : (end : Option Base) → IsFrom (key_of child.right) (key_of s.right) → IfSome end (λ e. IsFrom (key_of e) (key_of child.right))
          → IfSome end (λ e. IsFrom (key_of e) (key_of s.right))
      wider None low by = tt
      wider (Some end) low by = from_trans (key_of end) (key_of child.right) (key_of s.right) by low

-- the boundaries of a node in which a search finds no rule of its place broken hold a key where those of its place do
pub node_inside : (s : Subtree) (inner : Inner) (key : Key) → FitsBounds s.left s.right (inner_node inner) → IsInside s.left s.right key
    → IsInside (next_left inner.right inner.places.items) inner.right key
node_inside s inner key fits inside = record {
  from = by_list inner.places.items fits.0;
  before = subst (λ (k : Key). IsBefore key k) (sym fits.1) inside.before;
} where
  by_list : (cs : List Child) → BeginsAt s.left cs → IsFrom (key_of (next_left inner.right cs)) key
  by_list [] begins = absurd begins
  by_list (c ∷ cs) begins = subst (λ (k : Key). IsFrom k key) (sym begins) inside.from

-- the whole tree holds each key before its end
pub root_asked : (root : ℕ) (key : Key) (s : Subtree) → s ≡ root_place root → IsNodeOffset root → IsBefore key greatest_key → IsAsked key s
root_asked root key s is spot before = subst (λ (t : Subtree). IsAsked key t) (sym is) (record {
  spot = spot;
  bound = record { key = refl; not_closed = refl; no_kind = refl; btype = refl };
  inside = record {
    from = key_from_fields least_key key (omega arith) (omega arith) (omega arith) (omega arith) (omega arith);
    before = before;
  };
})

-- what is quiet as far as that is quiet
pub quiet_by : (told : Option PageMap) (root : ℕ) (at : Key) (since : ℕ) (s : Subtree) (r : Result (Option Base) Fault) → s ≡ root_place root
    → IfSome told (λ map. (height : ℕ) → IsStoredTree map height s → IfOk r (IsQuietBy (mark_in map height (node_at map s.at)) at since s.right))
    → IfSome told (λ map. IsSoundTree map root → IfOk r (IsQuiet (mark_of map root) at since))
quiet_by None root at since s r is by = tt
quiet_by (Some map) root at since s r is by = λ sound.
    let height = height_of (node_at map root) in
    let told = subst (λ (t : Subtree). (h : ℕ) → IsStoredTree map h t → IfOk r (IsQuietBy (mark_in map h (node_at map t.at)) at since t.right)) is by in
    IfOk-weaker r (IsQuietBy (mark_of map root) at since (root_place root).right) (IsQuiet (mark_of map root) at since) (λ end quiet. quiet.quiet)
    (told height sound)
