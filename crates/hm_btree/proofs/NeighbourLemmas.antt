-- The neighbour of a child that lost places is as it was, and is read.
use Rattle.std.proofs.Common.{◌≡◌, ℕ, suc, ◌+◌, ◌-◌, ◌<◌, ◌≤◌, inl, inr, List, ◌∷◌, ◌++◌, length, take, drop, sym, ap, subst, ◌∙◌, arith, Some, Err}
use Rattle.std.specs.Prelude.{Option, IsSome, IfSome, slice_get}
use Rattle.std.proofs.lemmas.Option.{IfSome_then, same_Some}
use Rattle.hm_types.specs.Faults.{HasFaultCause, HasStoreCause}
use Rattle.hm_types.specs.declared.fault.Fault.{Fault}
use Rattle.hm_fields.specs.Pages.{PageMap}
use Rattle.hm_node.specs.declared.inner.Child.{Child}
use Rattle.hm_node.specs.declared.inner.Inner.{Inner}
use Rattle.hm_node.specs.declared.node.Node.{Node}
use Rattle.hm_node.specs.declared.node.Node.TheVariants.{Inner as inner_node}
use Rattle.hm_search.specs.Descent.{PassesHere}
use Rattle.hm_search.specs.Place.{FitsLevel, TellsUnmet}
use Rattle.hm_search.specs.Tree.{node_at, next_left, child_place, children_of, IsTree, IsStoredTree}
use Rattle.hm_search.specs.declared.subtree.Subtree.{Subtree}
use Rattle.hm_search.proofs.ChildLemmas.{place_is}
use Rattle.hm_search.proofs.DamageLemmas.{tells_met}
use Rattle.hm_btree.specs.Marking.{TakesOut}
use Rattle.hm_btree.specs.Below.{Changed}
use Rattle.hm_btree.specs.Edits.{inner_of}
use Rattle.hm_btree.specs.Shape.{IsShaped}
use Rattle.hm_btree.specs.Shrink.{loose, IsLevelBelow, IsChildNode, IsPairJoined, IsJoinedAt, IsShrunk}
use Rattle.hm_btree.proofs.BesideLemmas.{upper_stays, lower_stays, upper_there}
use Rattle.hm_btree.proofs.EditLemmas.{child_level}
use Rattle.hm_btree.proofs.JoinAtLemmas.{split_pair, rest_pair}
use Rattle.hm_btree.proofs.ShrinkLemmas.{upper_child, pair_rising, pair_stored}
use Rattle.hm_btree.proofs.ToldLemmas.{IfSome_both}

module _ (inner : Inner) (i : ℕ) (node : Node) (mid : PageMap) (shrunk : IsShrunk inner i node mid) where
  abbrev cs : List Child
  cs = inner.places.items

  -- the tree with two of its children set apart
  pair_tree : (j : ℕ) (a b : Child) → slice_get cs j ≡ Some a → slice_get cs (j + 1) ≡ Some b
      → IsTree shrunk.old (suc shrunk.height) shrunk.place (inner_node (inner_of inner.level inner.mirror (take j cs ++ a ∷ b ∷ drop (j + 2) cs) inner.right))
  pair_tree j a b first second =
      subst (λ (l : List Child). IsTree shrunk.old (suc shrunk.height) shrunk.place
      (inner_node (inner_of inner.level inner.mirror l inner.right))) (split_pair cs j a b first second).0 shrunk.tree

  -- the child after it
  after_stored : (b : Child) → slice_get cs (i + 1) ≡ Some b → IsStoredTree mid shrunk.height
      (child_place inner.level (next_left inner.right (drop (i + 2) cs)) b)
  after_stored b is =
      let c = shrunk.child in
      let pre = take i cs in
      let post = drop (i + 2) cs in
      let whole = pair_tree i c b shrunk.at is in
      let change : Changed shrunk.f shrunk.key TakesOut (loose (child_place inner.level b.left c)) shrunk.height shrunk.old mid
      (node_at shrunk.old c.child) node =
      subst (λ (l : List Child). Changed shrunk.f shrunk.key TakesOut
      (loose (child_place inner.level (next_left inner.right l) c)) shrunk.height shrunk.old mid (node_at shrunk.old c.child)
      node) (rest_pair cs i c b shrunk.at is) shrunk.change in
      (upper_stays shrunk.old shrunk.height inner.level (next_left inner.right post) c b
      (pair_rising shrunk.place shrunk.height inner.level inner.mirror inner.right shrunk.old pre c b post whole)
      (pair_stored shrunk.place shrunk.height inner.level inner.mirror inner.right shrunk.old pre c b post whole) shrunk.f shrunk.key TakesOut mid shrunk.local
      (upper_child shrunk.place shrunk.height inner.level inner.mirror inner.right shrunk.old pre c b post whole) node change).stored

  pub right_stored : (s : Subtree) → slice_get (children_of inner) (i + 1) ≡ Some s → IsStoredTree mid shrunk.height s
  right_stored s at =
      let there = place_is inner.level inner.right cs (i + 1) s at in
      let next : i + 2 ≡ suc (i + 1) = omega arith in
      let place : child_place inner.level (next_left inner.right (drop (i + 2) cs)) there.child ≡ s =
      ap (λ (n : ℕ). child_place inner.level (next_left inner.right (drop n cs)) there.child) next ∙ sym there.place in
      subst (λ (t : Subtree). IsStoredTree mid shrunk.height t) place (after_stored there.child there.is)

  pub right_there : (c : Child) → slice_get cs (i + 1) ≡ Some c → IsSome (mid c.child)
  right_there c is = (after_stored c is).there

  -- the child before it
  module _ (j : ℕ) (next : j + 1 ≡ i) where
    here : slice_get cs (j + 1) ≡ Some shrunk.child
    here = subst (λ (n : ℕ). slice_get cs n ≡ Some shrunk.child) (sym next) shrunk.at

    before_stored : (a : Child) → slice_get cs j ≡ Some a → IsStoredTree mid shrunk.height
        (child_place inner.level shrunk.child.left a) × IsSome (mid shrunk.child.child)
    before_stored a is =
        let c = shrunk.child in
        let pre = take j cs in
        let post = drop (j + 2) cs in
        let whole = pair_tree j a c is here in
        let two : suc i ≡ j + 2 = omega (arith, next) in
        let change : Changed shrunk.f shrunk.key TakesOut (loose (child_place inner.level (next_left inner.right post) c))
        shrunk.height shrunk.old mid (node_at shrunk.old c.child) node =
        subst (λ (n : ℕ). Changed shrunk.f shrunk.key TakesOut
        (loose (child_place inner.level (next_left inner.right (drop n cs)) c)) shrunk.height shrunk.old mid
        (node_at shrunk.old c.child) node) two shrunk.change in
        let rising = pair_rising shrunk.place shrunk.height inner.level inner.mirror inner.right shrunk.old pre a c post whole in
        let stored = pair_stored shrunk.place shrunk.height inner.level inner.mirror inner.right shrunk.old pre a c post whole in
        let child = upper_child shrunk.place shrunk.height inner.level inner.mirror inner.right shrunk.old pre a c post whole in (
          (lower_stays shrunk.old shrunk.height inner.level (next_left inner.right post) a c rising stored shrunk.f shrunk.key
              TakesOut mid shrunk.local child node change).stored,
          upper_there shrunk.old shrunk.height inner.level (next_left inner.right post) a c rising stored shrunk.f shrunk.key
              TakesOut mid shrunk.local child node change,
        )

    pub left_stored : (s : Subtree) → slice_get (children_of inner) j ≡ Some s → IsStoredTree mid shrunk.height s
    left_stored s at =
        let there = place_is inner.level inner.right cs j s at in
        let place : child_place inner.level shrunk.child.left there.child ≡ s = ap (λ (l : List Child). child_place inner.level
        (next_left inner.right l) there.child) (sym (rest_pair cs j there.child shrunk.child there.is here)) ∙ sym there.place in
        subst (λ (t : Subtree). IsStoredTree mid shrunk.height t) place (before_stored there.child there.is).0

    pub own_page : (a c : Child) → slice_get cs j ≡ Some a → slice_get cs (j + 1) ≡ Some c → IsSome (mid c.child)
    own_page a c first is =
        let same : shrunk.child ≡ c = same_Some shrunk.child c (sym here ∙ is) in
        subst (λ (x : Child). IsSome (mid x.child)) same (before_stored a first).1

-- the last child has one before it
pub before_last : (i count n : ℕ) → count ≤ i + 1 → count ≡ n → 2 ≤ n → i - 1 + 1 ≡ i
before_last i count n last is many = omega arith

-- a node that was visited below an inner node
pub level_below : (inner : Inner) (i : ℕ) (s : Subtree) (child : Node) → slice_get (children_of inner) i ≡ Some s → IsShaped child
    → FitsLevel s.parent child → IsLevelBelow inner.level child
level_below inner i s child at shape fits = (shape, child_level inner i s child at fits)

-- no damage is told of it
pub visited_cause : {T A : Type 0} (told : Option PageMap) (s : Subtree) (old new : ℕ) (fault : Fault) → IfSome told
    (λ map. (height : ℕ) × IsStoredTree map height s) → HasFaultCause {T = A} old new (Err fault) → IfSome told (λ map. TellsUnmet s (map s.at) fault)
    → HasStoreCause {T = T} told old new (Err fault)
visited_cause told s old new fault stored counted damage = record {
  counted = record { never_falls = counted.never_falls; caused = counted.caused };
  undamaged = IfSome_both told stored damage (λ map stored damage. tells_met s (map s.at) fault stored.1.there stored.1.tree.fits damage);
}

-- the node that was read is the child's
pub read_child : (map : PageMap) (inner : Inner) (i : ℕ) (s : Subtree) (node : Node) → slice_get (children_of inner) i ≡ Some s
    → IsSome (map s.at) → PassesHere map s node → IsChildNode inner i map node
read_child map inner i s node at page here c is =
    let there = place_is inner.level inner.right inner.places.items i s at in
    let same : c ≡ there.child = same_Some c there.child (sym is ∙ there.is) in
    ap (λ (x : Child). node_at map x.child) same ∙ ap (λ (t : Subtree). node_at map t.at) (sym there.place) ∙ (here.spelled page).value

module _ (inner after : Inner) (i : ℕ) (child other : Node) (s : Subtree) (p0 p1 p2 : Option PageMap) (same : p1 ≡ p0) where
  -- where the pages are told
  pub right_read : IfSome p0 (IsShrunk inner i child) → slice_get (children_of inner) (i + 1) ≡ Some s
      → IfSome p0 (λ map. (height : ℕ) × IsStoredTree map height s)
  right_read shrunk at = IfSome_then p0 shrunk (λ map shrunk. (shrunk.height, right_stored inner i child map shrunk s at))

  pub left_read : (j : ℕ) → j + 1 ≡ i → IfSome p0 (IsShrunk inner i child) → slice_get (children_of inner) j ≡ Some s
      → IfSome p0 (λ map. (height : ℕ) × IsStoredTree map height s)
  left_read j next shrunk at = IfSome_then p0 shrunk (λ map shrunk. (shrunk.height, left_stored inner i child map shrunk j next s at))

  pub right_page : IfSome p0 (IsShrunk inner i child) → IfSome p1 (λ map. (c : Child) → slice_get inner.places.items (i + 1) ≡ Some c → IsSome (map c.child))
  right_page shrunk = IfSome_then p1 (subst (λ (p : Option PageMap). IfSome p (IsShrunk inner i child)) (sym same) shrunk) (right_there inner i child)

  pub left_page : (j : ℕ) → j + 1 ≡ i → slice_get (children_of inner) j ≡ Some s → IfSome p0 (IsShrunk inner i child)
      → IfSome p1 (λ map. (c : Child) → slice_get inner.places.items (j + 1) ≡ Some c → IsSome (map c.child))
  left_page j next at shrunk =
      let there = place_is inner.level inner.right inner.places.items j s at in
      IfSome_then p1 (subst (λ (p : Option PageMap). IfSome p (IsShrunk inner i child)) (sym same) shrunk)
      (λ map shrunk c is. own_page inner i child map shrunk j next there.child c there.is is)

  -- the node that was read is the neighbour's
  read_told : (j : ℕ) → slice_get (children_of inner) j ≡ Some s → IfSome p0 (λ map. (height : ℕ) × IsStoredTree map height s)
      → IfSome p0 (λ map. PassesHere map s other) → IfSome p0 (λ map. IsChildNode inner j map other)
  read_told j at stored here = IfSome_both p0 stored here (λ map stored here. read_child map inner j s other at stored.1.there here)

  pub right_joined : i + 1 < length inner.places.items → slice_get (children_of inner) (i + 1) ≡ Some s
      → IfSome p0 (λ map. (height : ℕ) × IsStoredTree map height s) → IfSome p0 (λ map. PassesHere map s other)
      → IfSome p1 (λ old. IfSome p2 (λ new. IsPairJoined inner i child other old new after))
      → IfSome p0 (λ old. IfSome p2 (λ new. IsJoinedAt inner i child old new after))
  right_joined low at stored here joined =
      IfSome_both p0 (read_told (i + 1) at stored here)
      (subst (λ (p : Option PageMap). IfSome p (λ old. IfSome p2 (λ new. IsPairJoined inner i child other old new after))) same joined)
      (λ old read joined. IfSome_then p2 joined (λ new joined. inl (low, other, read, joined)))

  pub left_joined : (j : ℕ) → j + 1 ≡ i → slice_get (children_of inner) j ≡ Some s → IfSome p0 (λ map. (height : ℕ)
      × IsStoredTree map height s) → IfSome p0 (λ map. PassesHere map s other)
      → IfSome p1 (λ old. IfSome p2 (λ new. IsPairJoined inner j other child old new after))
      → IfSome p0 (λ old. IfSome p2 (λ new. IsJoinedAt inner i child old new after))
  left_joined j next at stored here joined =
      IfSome_both p0 (read_told j at stored here)
      (subst (λ (p : Option PageMap). IfSome p (λ old. IfSome p2 (λ new. IsPairJoined inner j other child old new after))) same joined)
      (λ old read joined. IfSome_then p2 joined (λ new joined. inr (j, next, other, read, joined)))
