-- What a search finds below a place and beside its way down.
use Rattle.std.proofs.Common.{◌≡◌, ℕ, zero, suc, ◌+◌, ◌≤◌, false, List, [], ◌∷◌, ◌++◌, length, drop, refl, sym, ap, subst, ◌∙◌, arith}
use Rattle.std.specs.Prelude.{Option, Some, None, Result, IfSome, IfOk, slice_get}
use Rattle.std.specs.List.{AllByRecursion, flat_map}
use Rattle.std.proofs.lemmas.Option.{IfSome_then}
use Rattle.std.proofs.lemmas.Result.{IfOk-weaker}
use Rattle.hm_types.specs.Elements.{Key}
use Rattle.hm_types.specs.declared.fault.Fault.{Fault}
use Rattle.hm_fields.specs.Pages.{PageMap}
use Rattle.hm_key.specs.Key.{key_of, IsFrom}
use Rattle.hm_key.specs.Elements.{element_key, stands_before, first_from}
use Rattle.hm_key.specs.declared.base.Base.{Base}
use Rattle.hm_key.specs.declared.element.Element.{Element}
use Rattle.hm_key.proofs.KeyLemmas.{key_from_before}
use Rattle.hm_node.specs.Inner.{HasInnerOrder}
use Rattle.hm_node.specs.declared.inner.Child.{Child}
use Rattle.hm_node.specs.declared.inner.Inner.{Inner}
use Rattle.hm_node.specs.declared.node.Node.TheVariants.{Inner as inner_node}
use Rattle.hm_search.specs.Descent.{PassesHere}
use Rattle.hm_search.specs.Near.{IsReached, StartsFrom, element_of, reached_beside, reached_here}
use Rattle.hm_search.specs.Place.{FitsBounds, IsInside}
use Rattle.hm_search.specs.Search.{holder_place}
use Rattle.hm_search.specs.Tree.{node_at, elements_in, children_of, IsStoredTree}
use Rattle.hm_search.specs.declared.reached.Reached.{Reached}
use Rattle.hm_search.specs.declared.reached.Reached.TheVariants.{Found, Missed, Nothing}
use Rattle.hm_search.specs.declared.subtree.Subtree.{Subtree}
use Rattle.hm_search.proofs.ChildLemmas.{bounds, place_is}
use Rattle.hm_search.proofs.ContentLemmas.{elements_inside, elements_some, from_left}
use Rattle.hm_search.proofs.DescentLemmas.{child_stored}
use Rattle.hm_search.proofs.FirstLemmas.{drop_get, first_none, first_of_some}
use Rattle.hm_search.proofs.ListLemmas.{each_so}
use Rattle.hm_search.proofs.OrderLemmas.{from_not, from_trans}
use Rattle.hm_search.proofs.SearchLemmas.{child_has_parent, first_last_told, first_some_told, first_up, next_after, order_of}

-- what the leaf of a key has was reached, or missed
here_reached : (found wanted : Option Element) (r : Reached) → r ≡ reached_here found → found ≡ wanted → IsReached wanted r
here_reached None wanted r is same = subst (IsReached wanted) (sym is) (sym same)
here_reached (Some e) wanted r is same = subst (IsReached wanted) (sym is) (sym same)

pub leaf_reached : (told : Option PageMap) (s : Subtree) (found : Option Element) (wanted : PageMap → ℕ → Option Element) (r : Reached)
    → r ≡ reached_here found → IfSome told (λ map. (height : ℕ) → IsStoredTree map height s → found ≡ wanted map height)
    → IfSome told (λ map. (height : ℕ) → IsStoredTree map height s → IsReached (wanted map height) r)
leaf_reached None s found wanted r is same = tt
leaf_reached (Some map) s found wanted r is same = λ height stored. here_reached found (wanted map height) r is (same height stored)

-- what the neighbour has was reached, where it has something
pub beside_reached : (found wanted : Option Element) (e : Element) (r : Reached) → r ≡ reached_beside found → found ≡ wanted → wanted ≡ Some e
    → IsReached wanted r
beside_reached None wanted e r is same some = absurd cc
beside_reached (Some x) wanted e r is same some = subst (IsReached wanted) (sym is) (sym same)

-- a fact of each boundary is one of where a child begins
left_of_each : (P : Base → Type 0) (right : Base) (cs : List Child) (i : ℕ) (c : Child) → slice_get cs i ≡ Some c
    → AllByRecursion P (bounds right cs) → P c.left
left_of_each P right [] i c get each = absurd cc
left_of_each P right (d ∷ cs) zero c get each = let same : d ≡ c = cc in subst (λ (x : Child). P x.left) same each.0
left_of_each P right (d ∷ cs) (suc i) c get each = left_of_each P right cs i c get each.1

-- a child begins not before its node
left_high : (s child : Subtree) (inner : Inner) (place : ℕ) → HasInnerOrder inner → FitsBounds s.left s.right (inner_node inner)
    → slice_get (children_of inner) place ≡ Some child → IsFrom (key_of s.left) (key_of child.left)
left_high s child inner place order fits get =
    let here = place_is inner.level inner.right inner.places.items place child get in
    subst (λ (t : Subtree). IsFrom (key_of s.left) (key_of t.left)) (sym here.place)
    (left_of_each (λ b. IsFrom (key_of s.left) (key_of b)) inner.right inner.places.items place here.child here.is
    (from_left s.left inner.right inner.places.items fits.0 order))

-- of a tree that starts from a key there are elements, and none is before the key
record AreFrom (key : Key) (es : List Element) : Type 0 where
  some : 1 ≤ length es
  from : AllByRecursion (λ e. IsFrom key (element_key e)) es

starts_all : (map : PageMap) (height : ℕ) (key : Key) (s : Subtree) → IsStoredTree map height s → StartsFrom key s
    → AreFrom key (elements_in map height (node_at map s.at))
starts_all map height key s stored starts = record {
  some = elements_some map height s (node_at map s.at) starts.child stored.tree;
  from = each_so (λ e. IsInside s.left s.right (element_key e)) (λ e. IsFrom key (element_key e)) (elements_in map height (node_at map s.at))
      (λ e inside. from_trans key (key_of s.left) (element_key e) starts.from inside.from)
      (elements_inside map height s (node_at map s.at) stored.tree);
}

first_there : (key : Key) (es : List Element) → AreFrom key es → (e : Element) × (first_from key es ≡ Some e)
first_there key [] are = absurd (omega (arith, are.some))
first_there key (e ∷ es) are = let here : stands_before key e ≡ false = from_not (element_key e) key are.from.0 in (e, rw here refl)

-- Below a place that starts from a key, what the child that holds the key has is the first.
pub first_beside_told : (told now : Option PageMap) (s child : Subtree) (key : Key) (inner : Inner) (r : Result (Option Element) Fault) → now ≡ told
    → IfSome told (λ map. PassesHere map s (inner_node inner))
    → (HasInnerOrder inner → slice_get (children_of inner) (holder_place key inner.places.items) ≡ Some child)
    → IfSome now (λ map. (height : ℕ) → IsStoredTree map height child → StartsFrom key child
    → IfOk r (λ found. found ≡ first_from key (elements_in map height (node_at map child.at))))
    → IfSome told (λ map. (height : ℕ) → IsStoredTree map height s → StartsFrom key s
    → IfOk r (λ found. found ≡ first_from key (elements_in map height (node_at map s.at))))
first_beside_told None now s child key inner r same here view clause = tt
first_beside_told (Some map) now s child key inner r same here view clause = λ height stored starts.
    let told = subst (λ (o : Option PageMap). IfSome o (λ m. (h : ℕ) → IsStoredTree m h child → StartsFrom key child
    → IfOk r (λ found. found ≡ first_from key (elements_in m h (node_at m child.at))))) same clause in
    let place = holder_place key inner.places.items in
    let read = (here.spelled stored.there).value in
    let order = order_of map height s inner stored read in
    let get = view order in
    let below = child_stored map height s inner place child stored read get in
    let lower : StartsFrom key child = record {
      child = child_has_parent inner place child get;
      from = from_trans key (key_of s.left) (key_of child.left) starts.from
          (left_high s child inner place order (subst (FitsBounds s.left s.right) read stored.tree.fits.bounds) get);
    } in
    let are = starts_all map below.lower key child below.stored lower in
    let els = elements_in map below.lower (node_at map child.at) in
    let others = flat_map (λ (c : Child). elements_in map below.lower (node_at map c.child)) (drop (suc place) inner.places.items) in
    let whole = first_up map height below.lower s child inner key place below.is read below.tree refl get
    ∙ first_of_some key els others are.some are.from in
    IfOk-weaker r (λ found. found ≡ first_from key els) (λ found. found ≡ first_from key (elements_in map height (node_at map s.at)))
    (λ found is. is ∙ sym whole) (told below.lower below.stored lower)

-- of a leaf
pub leaf_beside_told : (told : Option PageMap) (s : Subtree) (key : Key) (found : Option Element)
    → IfSome told (λ map. (height : ℕ) → IsStoredTree map height s → found ≡ first_from key (elements_in map height (node_at map s.at)))
    → IfSome told (λ map. (height : ℕ) → IsStoredTree map height s → StartsFrom key s
    → found ≡ first_from key (elements_in map height (node_at map s.at)))
leaf_beside_told None s key found is = tt
leaf_beside_told (Some map) s key found is = λ height stored starts. is height stored

-- Where the child that holds the key has an element from it on, that one is the first.
pub first_found_told : (told now : Option PageMap) (s child : Subtree) (key : Key) (inner : Inner) (r : Reached) (e : Element) → now ≡ told
    → IfSome told (λ map. PassesHere map s (inner_node inner))
    → (HasInnerOrder inner → slice_get (children_of inner) (holder_place key inner.places.items) ≡ Some child) → r ≡ Found e
    → IfSome now (λ map. (height : ℕ) → IsStoredTree map height child
    → IsReached (first_from key (elements_in map height (node_at map child.at))) r)
    → IfSome told (λ map. (height : ℕ) → IsStoredTree map height s → first_from key (elements_in map height (node_at map s.at)) ≡ Some e)
first_found_told told now s child key inner r e same here view is clause =
    IfSome_then told (first_some_told told now s child key (inner_node inner) inner (Some e) e same refl here view refl
    (IfSome_then now clause (λ map f height stored.
    sym (subst (IsReached (first_from key (elements_in map height (node_at map child.at)))) is (f height stored)))))
    (λ map f height stored. sym (f height stored))

-- Where it has none and is the last child, there is none.
pub first_missed_told : (told now : Option PageMap) (s child : Subtree) (key : Key) (inner : Inner) (r : Reached) → now ≡ told
    → IfSome told (λ map. PassesHere map s (inner_node inner))
    → (HasInnerOrder inner → slice_get (children_of inner) (holder_place key inner.places.items) ≡ Some child) → r ≡ Missed
    → (HasInnerOrder inner → length inner.places.items ≤ holder_place key inner.places.items + 1)
    → IfSome now (λ map. (height : ℕ) → IsStoredTree map height child
    → IsReached (first_from key (elements_in map height (node_at map child.at))) r)
    → IfSome told (λ map. (height : ℕ) → IsStoredTree map height s → first_from key (elements_in map height (node_at map s.at)) ≡ None)
first_missed_told told now s child key inner r same here view is last clause =
    IfSome_then told (first_last_told told now s child key (inner_node inner) inner None same refl here view refl last
    (IfSome_then now clause (λ map f height stored.
    sym (subst (IsReached (first_from key (elements_in map height (node_at map child.at)))) is (f height stored)))))
    (λ map f height stored. sym (f height stored))

-- Where it has none, the first element from the key on below the next child is the first.
pub first_next_told : (told now later : Option PageMap) (s child next : Subtree) (key : Key) (inner : Inner) (r : Reached)
    (found : Option Element) (end : Reached) → now ≡ told → later ≡ told
    → IfSome told (λ map. PassesHere map s (inner_node inner))
    → (HasInnerOrder inner → slice_get (children_of inner) (holder_place key inner.places.items) ≡ Some child) → r ≡ Missed
    → (HasInnerOrder inner → slice_get (children_of inner) (holder_place key inner.places.items + 1) ≡ Some next)
    → IfSome now (λ map. (height : ℕ) → IsStoredTree map height child
    → IsReached (first_from key (elements_in map height (node_at map child.at))) r)
    → IfSome later (λ map. (height : ℕ) → IsStoredTree map height next → StartsFrom key next
    → found ≡ first_from key (elements_in map height (node_at map next.at)))
    → end ≡ reached_beside found
    → IfSome told (λ map. (height : ℕ) → IsStoredTree map height s → IsReached (first_from key (elements_in map height (node_at map s.at))) end)
first_next_told None now later s child next key inner r found end same same' here view is next_view clause clause' ends = tt
first_next_told (Some map) now later s child next key inner r found end same same' here view is next_view clause clause' ends = λ height stored.
    let place = holder_place key inner.places.items in
    let told = subst (λ (o : Option PageMap). IfSome o (λ m. (h : ℕ) → IsStoredTree m h child
    → IsReached (first_from key (elements_in m h (node_at m child.at))) r)) same clause in
    let told' = subst (λ (o : Option PageMap). IfSome o (λ m. (h : ℕ) → IsStoredTree m h next → StartsFrom key next
    → found ≡ first_from key (elements_in m h (node_at m next.at)))) same' clause' in
    let read = (here.spelled stored.there).value in
    let order = order_of map height s inner stored read in
    let get = view order in
    let get' = next_view order in
    let below = child_stored map height s inner place child stored read get in
    let beside = child_stored map height s inner (place + 1) next stored read get' in
    let level : beside.lower ≡ below.lower = omega (arith, below.is, beside.is) in
    let tree = subst (λ (h : ℕ). IsStoredTree map h next) level beside.stored in
    let there = place_is inner.level inner.right inner.places.items (place + 1) next get' in
    let after : place + 1 ≡ suc place = omega arith in
    let rest : drop (suc place) inner.places.items ≡ there.child ∷ drop (suc (suc place)) inner.places.items =
    drop_get inner.places.items (suc place) there.child (subst (λ (n : ℕ). slice_get inner.places.items n ≡ Some there.child) after there.is) in
    let els = elements_in map below.lower (node_at map next.at) in
    let others = flat_map (λ (c : Child). elements_in map below.lower (node_at map c.child)) (drop (suc (suc place)) inner.places.items) in
    let starts : StartsFrom key next = record {
      child = child_has_parent inner (place + 1) next get';
      from = key_from_before key (key_of next.left) (next_after inner key place next refl get');
    } in
    let are = starts_all map below.lower key next tree starts in
    let whole = first_up map height below.lower s child inner key place below.is read below.tree refl get
    ∙ first_none key (elements_in map below.lower (node_at map child.at))
    (flat_map (λ (c : Child). elements_in map below.lower (node_at map c.child)) (drop (suc place) inner.places.items))
    (subst (IsReached (first_from key (elements_in map below.lower (node_at map child.at)))) is (told below.lower below.stored))
    ∙ ap (λ (cs : List Child). first_from key (flat_map (λ (c : Child). elements_in map below.lower (node_at map c.child)) cs)) rest
    ∙ ap (λ (t : Subtree). first_from key (elements_in map below.lower (node_at map t.at) ++ others)) (sym there.place)
    ∙ first_of_some key els others are.some are.from in
    let one = first_there key els are in
    subst (λ (o : Option Element). IsReached o end) (sym whole)
    (beside_reached found (first_from key els) one.0 end ends (told' below.lower tree starts) one.1)

-- That the neighbour had nothing is told of no sound tree.
pub nothing_told : (told now : Option PageMap) (s child : Subtree) (inner : Inner) (place : ℕ) (r : Reached) (wanted below : PageMap → ℕ → Option Element)
    → now ≡ told → IfSome told (λ map. PassesHere map s (inner_node inner))
    → (HasInnerOrder inner → slice_get (children_of inner) place ≡ Some child) → r ≡ Nothing
    → IfSome now (λ map. (height : ℕ) → IsStoredTree map height child → IsReached (below map height) r)
    → IfSome told (λ map. (height : ℕ) → IsStoredTree map height s → IsReached (wanted map height) Nothing)
nothing_told None now s child inner place r wanted below same here view is clause = tt
nothing_told (Some map) now s child inner place r wanted below same here view is clause = λ height stored.
    let told = subst (λ (o : Option PageMap). IfSome o (λ m. (h : ℕ) → IsStoredTree m h child → IsReached (below m h) r)) same clause in
    let read = (here.spelled stored.there).value in
    let get = view (order_of map height s inner stored read) in
    let lower = child_stored map height s inner place child stored read get in
    subst (IsReached (below map lower.lower)) is (told lower.lower lower.stored)

-- what was reached in the whole tree
pub reached_is : (wanted : Option Element) (r : Reached) → IsReached wanted r → element_of r ≡ wanted
reached_is wanted (Found e) is = sym is
reached_is wanted Missed is = sym is
reached_is wanted Nothing is = absurd is
