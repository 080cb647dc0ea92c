-- What a search for the last element up to a key finds below a node, from what it finds below its children.
use Rattle.std.proofs.Common.{◌≡◌, ℕ, suc, List, take, sym, ap, subst, ◌∙◌, arith}
use Rattle.std.specs.Prelude.{Option, Some, None, IfSome, slice_get}
use Rattle.std.specs.List.{flat_map}
use Rattle.std.specs.Option.{option_or}
use Rattle.hm_types.specs.Elements.{Key}
use Rattle.hm_fields.specs.Pages.{PageMap}
use Rattle.hm_key.specs.Key.{key_of, IsFrom}
use Rattle.hm_key.specs.Elements.{last_to}
use Rattle.hm_key.specs.declared.base.Base.{Base}
use Rattle.hm_key.specs.declared.element.Element.{Element}
use Rattle.hm_node.specs.Inner.{HasInnerOrder}
use Rattle.hm_node.specs.Leaf.{HasLeafOrder}
use Rattle.hm_node.specs.declared.inner.Child.{Child}
use Rattle.hm_node.specs.declared.inner.Inner.{Inner}
use Rattle.hm_node.specs.declared.leaf.Leaf.{Leaf}
use Rattle.hm_node.specs.declared.node.Node.TheVariants.{Leaf as leaf_node, Inner as inner_node}
use Rattle.hm_search.specs.Descent.{PassesHere}
use Rattle.hm_search.specs.LookTo.{before_place}
use Rattle.hm_search.specs.Search.{holder_place}
use Rattle.hm_search.specs.Tree.{node_at, elements_in, children_of, IsTree, IsStoredTree}
use Rattle.hm_search.specs.declared.subtree.Subtree.{Subtree}
use Rattle.hm_search.proofs.ChildLemmas.{next_there, place_is}
use Rattle.hm_search.proofs.ContentLemmas.{AreInside, elements_inside}
use Rattle.hm_search.proofs.DescentLemmas.{child_stored}
use Rattle.hm_search.proofs.LastLemmas.{before_none, holder_begins, last_to_holder}
use Rattle.hm_search.proofs.ListLemmas.{each_so}
use Rattle.hm_search.proofs.SearchLemmas.{elements_up, leaf_elements, leaf_order_of, order_of}

pub leaf_told_to : (told : Option PageMap) (s : Subtree) (key : Key) (leaf : Leaf) (found : Option Element)
    → IfSome told (λ map. PassesHere map s (leaf_node leaf))
    → (HasLeafOrder leaf → found ≡ last_to key leaf.places.items)
    → IfSome told (λ map. (height : ℕ) → IsStoredTree map height s → found ≡ last_to key (elements_in map height (node_at map s.at)))
leaf_told_to None s key leaf found here read = tt
leaf_told_to (Some map) s key leaf found here read = λ height stored.
    let is = (here.spelled stored.there).value in
    read (leaf_order_of map height s leaf stored is) ∙ ap (last_to key) (sym (ap (elements_in map height) is ∙ leaf_elements map height leaf))

-- the elements of so many children of a node
abbrev pub elements_of_first : PageMap → ℕ → ℕ → Inner → List Element
elements_of_first map lower n inner = flat_map (λ (c : Child). elements_in map lower (node_at map c.child)) (take n inner.places.items)

-- the last element up to a key below an inner node: below the child that holds the key, or else below those before it
pub last_up : (map : PageMap) (height lower : ℕ) (s child : Subtree) (inner : Inner) (key : Key) → height ≡ suc lower
    → node_at map s.at ≡ inner_node inner → IsTree map (suc lower) s (inner_node inner)
    → slice_get (children_of inner) (holder_place key inner.places.items) ≡ Some child
    → last_to key (elements_in map height (node_at map s.at))
    ≡ option_or (last_to key (elements_in map lower (node_at map child.at)))
    (last_to key (elements_of_first map lower (holder_place key inner.places.items) inner))
last_up map height lower s child inner key up is tree get =
    let place = holder_place key inner.places.items in
    let here = place_is inner.level inner.right inner.places.items place child get in
    let inside = each_so (IsStoredTree map lower) (λ c. AreInside c.left c.right (elements_in map lower (node_at map c.at))) (children_of inner)
    (λ c stored. elements_inside map lower c (node_at map c.at) stored.tree) tree.below in
    ap (last_to key) (elements_up map height lower s inner up is)
    ∙ last_to_holder (λ a. elements_in map lower (node_at map a)) inner.level inner.right key inner.places.items here.child tree.sound.order inside here.is
    ∙ ap (λ (t : Subtree). option_or (last_to key (elements_in map lower (node_at map t.at))) (last_to key (elements_of_first map lower place inner)))
    (sym here.place)

-- what the child that holds the key answered, where the pages are told
abbrev pub Answered : Option PageMap → Subtree → Key → Option Element → Type 0
Answered told s key found =
    IfSome told (λ map. (height : ℕ) → IsStoredTree map height s → found ≡ last_to key (elements_in map height (node_at map s.at)))

-- Where that child has an element up to the key, it is the last.
pub last_some_told : (told now : Option PageMap) (s child : Subtree) (key : Key) (inner : Inner) (found : Option Element) (e : Element) → now ≡ told
    → IfSome told (λ map. PassesHere map s (inner_node inner))
    → (HasInnerOrder inner → slice_get (children_of inner) (holder_place key inner.places.items) ≡ Some child)
    → found ≡ Some e → Answered now child key found → Answered told s key (Some e)
last_some_told None now s child key inner found e same here view some clause = tt
last_some_told (Some map) now s child key inner found e same here view some clause = λ height stored.
    let told = subst (λ (o : Option PageMap). Answered o child key found) same clause in
    let read = (here.spelled stored.there).value in
    let get = view (order_of map height s inner stored read) in
    let place = holder_place key inner.places.items in
    let below = child_stored map height s inner place child stored read get in
    sym (last_up map height below.lower s child inner key below.is read below.tree get
    ∙ ap (λ (o : Option Element). option_or o (last_to key (elements_of_first map below.lower place inner))) (sym (told below.lower below.stored) ∙ some))

-- Where it has none and is the first, there is none.
pub last_none_told : (told now : Option PageMap) (s child : Subtree) (key : Key) (inner : Inner) (found : Option Element) → now ≡ told
    → IfSome told (λ map. PassesHere map s (inner_node inner))
    → (HasInnerOrder inner → slice_get (children_of inner) (holder_place key inner.places.items) ≡ Some child)
    → (HasInnerOrder inner → before_place (children_of inner) (holder_place key inner.places.items) ≡ None)
    → found ≡ None → Answered now child key found → Answered told s key None
last_none_told None now s child key inner found same here view first none clause = tt
last_none_told (Some map) now s child key inner found same here view first none clause = λ height stored.
    let told = subst (λ (o : Option PageMap). Answered o child key found) same clause in
    let read = (here.spelled stored.there).value in
    let order = order_of map height s inner stored read in
    let get = view order in
    let place = holder_place key inner.places.items in
    let below = child_stored map height s inner place child stored read get in
    let front : place ≡ 0 = before_none (children_of inner) place child get (first order) in
    sym (last_up map height below.lower s child inner key below.is read below.tree get
    ∙ ap (λ (o : Option Element). option_or o (last_to key (elements_of_first map below.lower place inner))) (sym (told below.lower below.stored) ∙ none)
    ∙ ap (λ (n : ℕ). last_to key (elements_of_first map below.lower n inner)) front)

-- the child before the one that holds a key ends by the key
pub before_ends : (inner : Inner) (key : Key) (k : ℕ) (child before : Subtree) → holder_place key inner.places.items ≡ suc k
    → slice_get (children_of inner) (holder_place key inner.places.items) ≡ Some child → slice_get (children_of inner) k ≡ Some before
    → IsFrom (key_of before.right) key
before_ends inner key k child before at get get' =
    let cs = inner.places.items in
    let here = place_is inner.level inner.right cs (holder_place key cs) child get in
    let there = place_is inner.level inner.right cs k before get' in
    let bound : before.right ≡ here.child.left =
    ap (λ (t : Subtree). t.right) there.place
    ∙ next_there inner.right cs (suc k) here.child (subst (λ (n : ℕ). slice_get cs n ≡ Some here.child) at here.is) in
    subst (λ (b : Base). IsFrom (key_of b) key) (sym bound) (holder_begins key cs here.child here.is (omega (arith, at)))
