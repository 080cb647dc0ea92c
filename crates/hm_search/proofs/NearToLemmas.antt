-- What a search for the last element up to a key finds below a place and beside its way down.
use Rattle.std.proofs.Common.{◌≡◌, ℕ, suc, ◌≤◌, false, List, [], ◌∷◌, length, refl, sym, ap, subst, ◌∙◌, arith}
use Rattle.std.specs.Prelude.{Option, Some, None, Result, IfSome, IfOk, slice_get}
use Rattle.std.specs.List.{AllByRecursion}
use Rattle.std.specs.Option.{option_or}
use Rattle.std.proofs.lemmas.Option.{IfSome_then}
use Rattle.std.proofs.lemmas.Result.{IfOk-weaker}
use Rattle.hm_types.specs.Elements.{Key}
use Rattle.hm_types.specs.declared.fault.Fault.{Fault}
use Rattle.hm_fields.specs.Pages.{PageMap}
use Rattle.hm_key.specs.Key.{key_of, IsFrom}
use Rattle.hm_key.specs.Elements.{element_key, stands_after, last_to}
use Rattle.hm_key.specs.declared.element.Element.{Element}
use Rattle.hm_key.proofs.KeyLemmas.{key_from_before}
use Rattle.hm_node.specs.Inner.{HasInnerOrder}
use Rattle.hm_node.specs.declared.inner.Inner.{Inner}
use Rattle.hm_node.specs.declared.node.Node.TheVariants.{Inner as inner_node}
use Rattle.hm_search.specs.Descent.{PassesHere}
use Rattle.hm_search.specs.LookTo.{before_place}
use Rattle.hm_search.specs.Near.{EndsBy, IsReached, reached_beside}
use Rattle.hm_search.specs.Place.{FitsBounds, IsInside}
use Rattle.hm_search.specs.Search.{holder_place}
use Rattle.hm_search.specs.Tree.{node_at, elements_in, children_of, IsStoredTree}
use Rattle.hm_search.specs.declared.reached.Reached.{Reached}
use Rattle.hm_search.specs.declared.reached.Reached.TheVariants.{Found, Missed}
use Rattle.hm_search.specs.declared.subtree.Subtree.{Subtree}
use Rattle.hm_search.proofs.ChildLemmas.{place_is}
use Rattle.hm_search.proofs.ContentLemmas.{elements_inside, elements_some}
use Rattle.hm_search.proofs.DescentLemmas.{child_stored}
use Rattle.hm_search.proofs.LastLemmas.{before_some, last_of_some, last_taken}
use Rattle.hm_search.proofs.ListLemmas.{each_so}
use Rattle.hm_search.proofs.NearLemmas.{beside_reached}
use Rattle.hm_search.proofs.OrderLemmas.{from_not, from_trans}
use Rattle.hm_search.proofs.SearchLemmas.{child_has_parent, order_of, right_low}
use Rattle.hm_search.proofs.SearchToLemmas.{Answered, before_ends, elements_of_first, last_none_told, last_some_told, last_up}

-- of a tree that ends by a key there are elements, and none is after the key
record AreTo (key : Key) (es : List Element) : Type 0 where
  some : 1 ≤ length es
  to : AllByRecursion (λ e. IsFrom (element_key e) key) es

ends_all : (map : PageMap) (height : ℕ) (key : Key) (s : Subtree) → IsStoredTree map height s → EndsBy key s
    → AreTo key (elements_in map height (node_at map s.at))
ends_all map height key s stored ends = record {
  some = elements_some map height s (node_at map s.at) ends.child stored.tree;
  to = each_so (λ e. IsInside s.left s.right (element_key e)) (λ e. IsFrom (element_key e) key) (elements_in map height (node_at map s.at))
      (λ e inside. from_trans (element_key e) (key_of s.right) key (key_from_before (element_key e) (key_of s.right) inside.before) ends.by)
      (elements_inside map height s (node_at map s.at) stored.tree);
}

last_there : (key : Key) (es : List Element) → AreTo key es → (e : Element) × (last_to key es ≡ Some e)
last_there key [] are = absurd (omega (arith, are.some))
last_there key (e ∷ es) are =
    let here : stands_after key e ≡ false = from_not key (element_key e) are.to.0 in rw here (given (last_to key es)) where
      given : (o : Option Element) → (x : Element) × (option_or o (Some e) ≡ Some x)
      given None = (e, refl)
      given (Some x) = (x, refl)

-- Below a place that ends by a key, what the child that holds the key has is the last.
pub last_beside_told : (told now : Option PageMap) (s child : Subtree) (key : Key) (inner : Inner) (r : Result (Option Element) Fault) → now ≡ told
    → IfSome told (λ map. PassesHere map s (inner_node inner))
    → (HasInnerOrder inner → slice_get (children_of inner) (holder_place key inner.places.items) ≡ Some child)
    → IfSome now (λ map. (height : ℕ) → IsStoredTree map height child → EndsBy key child
    → IfOk r (λ found. found ≡ last_to key (elements_in map height (node_at map child.at))))
    → IfSome told (λ map. (height : ℕ) → IsStoredTree map height s → EndsBy key s
    → IfOk r (λ found. found ≡ last_to key (elements_in map height (node_at map s.at))))
last_beside_told None now s child key inner r same here view clause = tt
last_beside_told (Some map) now s child key inner r same here view clause = λ height stored ends.
    let told = subst (λ (o : Option PageMap). IfSome o (λ m. (h : ℕ) → IsStoredTree m h child → EndsBy key child
    → IfOk r (λ found. found ≡ last_to key (elements_in m h (node_at m child.at))))) same clause in
    let place = holder_place key inner.places.items in
    let read = (here.spelled stored.there).value in
    let order = order_of map height s inner stored read in
    let get = view order in
    let below = child_stored map height s inner place child stored read get in
    let lower : EndsBy key child = record {
      child = child_has_parent inner place child get;
      by = from_trans (key_of child.right) (key_of s.right) key
          (right_low s child inner place order (subst (FitsBounds s.left s.right) read stored.tree.fits.bounds) get) ends.by;
    } in
    let are = ends_all map below.lower key child below.stored lower in
    let els = elements_in map below.lower (node_at map child.at) in
    let whole = last_up map height below.lower s child inner key below.is read below.tree get
    ∙ last_of_some key els (last_to key (elements_of_first map below.lower place inner)) are.some are.to in
    IfOk-weaker r (λ found. found ≡ last_to key els) (λ found. found ≡ last_to key (elements_in map height (node_at map s.at)))
    (λ found is. is ∙ sym whole) (told below.lower below.stored lower)

-- of a leaf
pub leaf_beside_told_to : (told : Option PageMap) (s : Subtree) (key : Key) (found : Option Element) → Answered told s key found
    → IfSome told (λ map. (height : ℕ) → IsStoredTree map height s → EndsBy key s
    → found ≡ last_to key (elements_in map height (node_at map s.at)))
leaf_beside_told_to None s key found is = tt
leaf_beside_told_to (Some map) s key found is = λ height stored ends. is height stored

-- Where the child that holds the key has an element up to it, that one is the last.
pub last_found_told : (told now : Option PageMap) (s child : Subtree) (key : Key) (inner : Inner) (r : Reached) (e : Element) → now ≡ told
    → IfSome told (λ map. PassesHere map s (inner_node inner))
    → (HasInnerOrder inner → slice_get (children_of inner) (holder_place key inner.places.items) ≡ Some child) → r ≡ Found e
    → IfSome now (λ map. (height : ℕ) → IsStoredTree map height child
    → IsReached (last_to key (elements_in map height (node_at map child.at))) r)
    → IfSome told (λ map. (height : ℕ) → IsStoredTree map height s → last_to key (elements_in map height (node_at map s.at)) ≡ Some e)
last_found_told told now s child key inner r e same here view is clause =
    IfSome_then told (last_some_told told now s child key inner (Some e) e same here view refl
    (IfSome_then now clause (λ map f height stored.
    sym (subst (IsReached (last_to key (elements_in map height (node_at map child.at)))) is (f height stored)))))
    (λ map f height stored. sym (f height stored))

-- Where it has none and is the first child, there is none.
pub last_missed_told : (told now : Option PageMap) (s child : Subtree) (key : Key) (inner : Inner) (r : Reached) → now ≡ told
    → IfSome told (λ map. PassesHere map s (inner_node inner))
    → (HasInnerOrder inner → slice_get (children_of inner) (holder_place key inner.places.items) ≡ Some child) → r ≡ Missed
    → (HasInnerOrder inner → before_place (children_of inner) (holder_place key inner.places.items) ≡ None)
    → IfSome now (λ map. (height : ℕ) → IsStoredTree map height child
    → IsReached (last_to key (elements_in map height (node_at map child.at))) r)
    → IfSome told (λ map. (height : ℕ) → IsStoredTree map height s → last_to key (elements_in map height (node_at map s.at)) ≡ None)
last_missed_told told now s child key inner r same here view is first clause =
    IfSome_then told (last_none_told told now s child key inner None same here view first refl
    (IfSome_then now clause (λ map f height stored.
    sym (subst (IsReached (last_to key (elements_in map height (node_at map child.at)))) is (f height stored)))))
    (λ map f height stored. sym (f height stored))

-- Where it has none, the last element up to the key below the child before it is the last.
pub last_before_told : (told now later : Option PageMap) (s child before : Subtree) (key : Key) (inner : Inner) (r : Reached)
    (found : Option Element) (end : Reached) → now ≡ told → later ≡ told
    → IfSome told (λ map. PassesHere map s (inner_node inner))
    → (HasInnerOrder inner → slice_get (children_of inner) (holder_place key inner.places.items) ≡ Some child) → r ≡ Missed
    → (HasInnerOrder inner → before_place (children_of inner) (holder_place key inner.places.items) ≡ Some before)
    → IfSome now (λ map. (height : ℕ) → IsStoredTree map height child
    → IsReached (last_to key (elements_in map height (node_at map child.at))) r)
    → IfSome later (λ map. (height : ℕ) → IsStoredTree map height before → EndsBy key before
    → found ≡ last_to key (elements_in map height (node_at map before.at)))
    → end ≡ reached_beside found
    → IfSome told (λ map. (height : ℕ) → IsStoredTree map height s → IsReached (last_to key (elements_in map height (node_at map s.at))) end)
last_before_told None now later s child before key inner r found end same same' here view is view' clause clause' ends = tt
last_before_told (Some map) now later s child before key inner r found end same same' here view is view' clause clause' ends = λ height stored.
    let told = subst (λ (o : Option PageMap). IfSome o (λ m. (h : ℕ) → IsStoredTree m h child
    → IsReached (last_to key (elements_in m h (node_at m child.at))) r)) same clause in
    let told' = subst (λ (o : Option PageMap). IfSome o (λ m. (h : ℕ) → IsStoredTree m h before → EndsBy key before
    → found ≡ last_to key (elements_in m h (node_at m before.at)))) same' clause' in
    let read = (here.spelled stored.there).value in
    let order = order_of map height s inner stored read in
    let get = view order in
    let cs = inner.places.items in
    let place = holder_place key cs in
    let there = before_some (children_of inner) place before (view' order) in
    let k = there.0 in
    let at : place ≡ suc k = there.1 in
    let get' = there.2 in
    let below = child_stored map height s inner place child stored read get in
    let beside = child_stored map height s inner k before stored read get' in
    let level : beside.lower ≡ below.lower = omega (arith, below.is, beside.is) in
    let tree = subst (λ (h : ℕ). IsStoredTree map h before) level beside.stored in
    let one = place_is inner.level inner.right cs k before get' in
    let els = elements_in map below.lower (node_at map before.at) in
    let lower : EndsBy key before = record {
      child = child_has_parent inner k before get';
      by = before_ends inner key k child before at get get';
    } in
    let are = ends_all map below.lower key before tree lower in
    let rest = last_to key (elements_of_first map below.lower k inner) in
    let none : last_to key (elements_in map below.lower (node_at map child.at)) ≡ None =
    subst (IsReached (last_to key (elements_in map below.lower (node_at map child.at)))) is (told below.lower below.stored) in
    let whole = last_up map height below.lower s child inner key below.is read below.tree get
    ∙ ap (λ (o : Option Element). option_or o (last_to key (elements_of_first map below.lower place inner))) none
    ∙ ap (λ (n : ℕ). last_to key (elements_of_first map below.lower n inner)) at
    ∙ last_taken (λ a. elements_in map below.lower (node_at map a)) inner.level inner.right key cs k one.child one.is
    ∙ ap (λ (t : Subtree). option_or (last_to key (elements_in map below.lower (node_at map t.at))) rest) (sym one.place)
    ∙ last_of_some key els rest are.some are.to in
    let last = last_there key els are in
    subst (λ (o : Option Element). IsReached o end) (sym whole)
    (beside_reached found (last_to key els) last.0 end ends (told' below.lower tree lower) last.1)
