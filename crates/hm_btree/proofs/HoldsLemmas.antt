-- The child that holds the key of an element.
use Rattle.std.proofs.Common.{◌≡◌, ℕ, zero, suc, List, ◌∷◌, ◌++◌, length, take, drop, refl, sym, ap, subst, ◌∙◌, arith, Some}
use Rattle.std.specs.Prelude.{Option, IsSome, is_some, IfSome, slice_get}
use Rattle.std.proofs.lemmas.Option.{IfSome_then}
use Rattle.hm_types.specs.Elements.{Key}
use Rattle.hm_fields.specs.Pages.{PageMap}
use Rattle.hm_key.specs.Elements.{element_at}
use Rattle.hm_key.specs.declared.base.Base.{Base}
use Rattle.hm_key.specs.declared.element.Element.{Element}
use Rattle.hm_node.specs.declared.inner.Child.{Child}
use Rattle.hm_node.specs.declared.inner.Inner.{Inner}
use Rattle.hm_node.specs.declared.node.Node.{Node}
use Rattle.hm_node.specs.declared.node.Node.TheVariants.{Leaf as leaf_node, Inner as inner_node}
use Rattle.hm_node.specs.Inner.{HasInnerOrder}
use Rattle.hm_search.specs.Place.{IsInside, FitsCount}
use Rattle.hm_search.specs.Search.{holder_place}
use Rattle.hm_search.specs.Tree.{node_at, elements_in, next_left, child_place, children_of, IsTree, IsStoredTree}
use Rattle.hm_search.specs.declared.subtree.Parent.{Parent}
use Rattle.hm_search.specs.declared.subtree.Subtree.{Subtree}
use Rattle.hm_search.proofs.ChildLemmas.{place_is}
use Rattle.hm_btree.specs.Marking.{TakesOut}
use Rattle.hm_btree.specs.Below.{IsLocal, Changed, SpellsAt}
use Rattle.hm_btree.specs.Edits.{inner_of}
use Rattle.hm_btree.specs.Shrink.{loose, Shrinks, HoldsElement, HasNeighbours, IsShrunk}
use Rattle.hm_btree.proofs.EditLemmas.{split_at, stored_below, child_inside, child_tree, child_element, read_there}
use Rattle.hm_btree.proofs.ToldLemmas.{IfSome_alike, IfSome_both}

-- a child that was read, inside whose boundaries a key lies
pub record IsHolderBelow (map : PageMap) (height : ℕ) (key : Key) (inner : Inner) (i : ℕ) (s : Subtree) (child : Node) : Type 0 where
  pub lower : ℕ
  pub high : height ≡ suc lower
  pub one : Child
  pub at : slice_get inner.places.items i ≡ Some one
  pub where_is : s.at ≡ one.child
  pub stored : IsStoredTree map lower (child_place inner.level (next_left inner.right (drop (suc i) inner.places.items)) one)
  pub read : node_at map one.child ≡ child
  pub inside : IsInside one.left (next_left inner.right (drop (suc i) inner.places.items)) key
  pub same : element_at key (elements_in map height (inner_node inner)) ≡ element_at key (elements_in map lower child)

module _ (key : Key) (inner : Inner) (i : ℕ) (s : Subtree) (child : Node) (holder : HasInnerOrder inner → i ≡ holder_place key inner.places.items)
    (at : slice_get (children_of inner) i ≡ Some s) where
  pub holder_below : (map : PageMap) (height : ℕ) (place : Subtree) → IsTree map height place (inner_node inner)
      → IsInside place.left place.right key → SpellsAt map s child → IsHolderBelow map height key inner i s child
  holder_below map zero place tree inside here = absurd (omega (arith, tree.level, tree.sound.level.0))
  holder_below map (suc lower) place tree inside here =
      let there = place_is inner.level inner.right inner.places.items i s at in
      let cs : List Child = inner.places.items in
      let c : Child = there.child in
      let pre : List Child = take i cs in
      let post : List Child = drop (suc i) cs in
      let split = split_at cs i c there.is in
      let tree' : IsTree map (suc lower) place (inner_node (inner_of inner.level inner.mirror (pre ++ c ∷ post) inner.right)) =
      subst (λ (l : List Child). IsTree map (suc lower) place (inner_node (inner_of inner.level inner.mirror l inner.right))) split.0 tree in
      let held : length pre ≡ holder_place key (pre ++ c ∷ post) = split.1 ∙ holder tree.sound.order ∙ ap (holder_place key) split.0 in
      let where_is : s.at ≡ c.child = ap (λ (t : Subtree). t.at) there.place in
      let stored : IsStoredTree map lower (child_place inner.level (next_left inner.right post) c) = child_tree key place lower
      inner.level inner.mirror inner.right map pre c post tree' held inside in
      let read : node_at map c.child ≡ child = read_there map s c.child child where_is stored.there here in
      record {
        lower = lower;
        high = refl;
        one = c;
        at = there.is;
        where_is = where_is;
        stored = stored;
        read = read;
        inside = child_inside key place lower inner.level inner.mirror inner.right map pre c post tree' held inside;
        same = ap (λ (l : List Child). element_at key (elements_in map (suc lower) (inner_node (inner_of inner.level inner.mirror l inner.right)))) split.0
            ∙ child_element key place lower inner.level inner.mirror inner.right map pre c post tree' held inside
            ∙ ap (λ (n : Node). element_at key (elements_in map lower n)) read;
      }

  -- where the pages are told
  module _ (node : Node) (p0 p1 : Option PageMap) (is : node ≡ inner_node inner) (same : p1 ≡ p0) where
    -- the child and its node, where the element stands below this one
    held_below : IfSome p0 (HoldsElement key node) → IfSome p0 (λ map. SpellsAt map s child)
        → IfSome p0 (λ map. (holds : HoldsElement key node map) × IsHolderBelow map holds.height key inner i s child)
    held_below holds here = IfSome_both p0 holds here (λ map holds here. (
      holds,
      holder_below map holds.height holds.place
          (subst (λ (n : Node). IsTree map holds.height holds.place n) is holds.tree) holds.inside here,
    ))

    -- the element is there in the child's node
    there_below : (map : PageMap) (holds : HoldsElement key node map) (below : IsHolderBelow map holds.height key inner i s child)
        → IsSome (element_at key (elements_in map below.lower child))
    there_below map holds below = subst (λ (o : Option Element). IsSome o)
        (ap (λ (n : Node). element_at key (elements_in map holds.height n)) is ∙ below.same) holds.there

    pub holds_below : IfSome p0 (HoldsElement key node) → IfSome p0 (λ map. SpellsAt map s child) → IfSome p1 (HoldsElement key child)
    holds_below holds here = subst (λ (p : Option PageMap). IfSome p (HoldsElement key child)) (sym same)
        (IfSome_then p0 (held_below holds here) (λ map held.
        let below = held.1 in
        let spot : Subtree = child_place inner.level (next_left inner.right (drop (suc i) inner.places.items)) below.one in
        record {
          place = spot;
          height = below.lower;
          tree = subst (λ (n : Node). IsTree map below.lower spot n) below.read below.stored.tree;
          inside = below.inside;
          there = there_below map held.0 below;
        }))

    -- and the child lost places
    pub shrunk_told : (f : List Element → List Element) (p2 : Option PageMap) (after : Node) → IsLocal f key
        → IfSome p0 (HoldsElement key node) → IfSome p0 (λ map. SpellsAt map s child)
        → Shrinks f key TakesOut (λ o. IsSome o) p1 p2 child after → is_some p2 ≡ is_some p1 → IfSome p2 (IsShrunk inner i after)
    shrunk_told f p2 after local holds here shrinks told = IfSome_alike p0 p2 _ (told ∙ ap is_some same)
        (IfSome_both p0 (held_below holds here)
        (subst (λ (p : Option PageMap). Shrinks f key TakesOut (λ o. IsSome o) p p2 child after) same shrinks) (λ map held shrinks.
        let holds = held.0 in
        let below = held.1 in
        let spot : Subtree = child_place inner.level (next_left inner.right (drop (suc i) inner.places.items)) below.one in
        IfSome_then p2 (shrinks spot below.lower (subst (λ (n : Node). IsTree map below.lower spot n) below.read below.stored.tree)
        below.inside (there_below map holds below)) (λ mid change. record {
          f = f;
          key = key;
          local = local;
          old = map;
          place = holds.place;
          height = below.lower;
          tree = subst (λ (n : ℕ). IsTree map n holds.place (inner_node inner)) below.high
              (subst (λ (n : Node). IsTree map holds.height holds.place n) is holds.tree);
          inside = holds.inside;
          holder = holder (subst (λ (n : Node). IsTree map holds.height holds.place n) is holds.tree).sound.order;
          child = below.one;
          at = below.at;
          change = subst (λ (n : Node). Changed f key TakesOut (loose spot) below.lower map mid n after) (sym below.read) change;
        })))

-- the child that is read is stored
pub holds_read : (key : Key) (inner : Inner) (i : ℕ) (s : Subtree) (node : Node) (p : Option PageMap) → node ≡ inner_node inner
    → slice_get (children_of inner) i ≡ Some s → IfSome p (HoldsElement key node) → IfSome p (λ map. (height : ℕ) × IsStoredTree map height s)
holds_read key inner i s node p is at holds = IfSome_then p holds (λ map holds.
    let below = stored_below map holds.height holds.place node inner i s holds.tree is at in
    (below.lower, below.stored))

-- below an inner node each inner node has two children at least
pub neighbours_below : (inner : Inner) (i : ℕ) (s : Subtree) (child : Node) → slice_get (children_of inner) i ≡ Some s → FitsCount s.parent child
    → HasNeighbours child
neighbours_below inner i s child at fits =
    let there = place_is inner.level inner.right inner.places.items i s at in
    by_place s there.place fits where
      by_node : (n : Node) (p : Parent) → FitsCount (Some p) n → HasNeighbours n
      by_node (leaf_node leaf) p fits = tt
      by_node (inner_node below) p fits = omega (arith, fits)

      by_place : (s : Subtree) {b : Base} {c : Child} → s ≡ child_place inner.level b c → FitsCount s.parent child → HasNeighbours child
      by_place s {b = b} {c = c} same fits =
          by_node child (record { level = inner.level; mirror = c.mirror }) (subst (λ (t : Subtree). FitsCount t.parent child) same fits)
