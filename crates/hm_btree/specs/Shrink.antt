-- Nodes that lose places, and are joined with a neighbour where they have too few.
use Rattle.std.specs.Prelude.{◌≡◌, ◌⊎◌, ℕ, suc, ◌+◌, ◌/◌, ◌<◌, ◌≤◌, ◌||◌, Bool, max, nat_lt, if◌then◌else◌, List, [], ◌∷◌, ◌++◌, length}
use Rattle.std.specs.Prelude.{take, drop, slice_get, Option, None, Some, IfSome, IsSome, ⊤}
use Rattle.std.specs.Ordering.{is_lt}
use Rattle.arrayvec.specs.ArrayVec.{array_vec_len}
use Rattle.hm_types.specs.Elements.{Key, key_cmp}
use Rattle.hm_fields.specs.Pages.{PageMap}
use Rattle.hm_key.specs.Key.{key_of, IsBefore, IsFrom}
use Rattle.hm_key.specs.Elements.{element_at}
use Rattle.hm_key.specs.declared.base.Base.{Base}
use Rattle.hm_key.specs.declared.element.Element.{Element}
use Rattle.hm_node.specs.Inner.{IsBound}
use Rattle.hm_node.specs.Node.{count_of, level_of}
use Rattle.hm_node.specs.declared.inner.Child.{Child}
use Rattle.hm_node.specs.declared.inner.Inner.{Inner}
use Rattle.hm_node.specs.declared.leaf.Leaf.{Leaf}
use Rattle.hm_node.specs.declared.node.Node.{Node}
use Rattle.hm_node.specs.declared.node.Node.TheVariants.{Leaf as leaf_node, Inner as inner_node}
use Rattle.hm_search.specs.Place.{IsInside, least_count, mirror_of}
use Rattle.hm_search.specs.Search.{holder_place}
use Rattle.hm_search.specs.Tree.{node_at, elements_in, mark_in, reaches, next_left, child_place, elements_of, mark_of, IsTree}
use Rattle.hm_search.specs.declared.subtree.Subtree.{Subtree}
use Rattle.hm_btree.specs.Marking.{Marking, TakesOut, MarksWithin}
use Rattle.hm_btree.specs.Below.{Replaces, IsLocal, Changed}
use Rattle.hm_btree.specs.Edits.{leaf_of, inner_of, left_of, with_mirror}
use Rattle.hm_btree.specs.Grow.{FirstAt}
use Rattle.hm_btree.specs.Shape.{IsShaped}
use Rattle.hm_btree.specs.Space.{HasWritten, HasLost}
use Rattle.hm_btree.specs.Tree.{IsTreeSpace}
use Rattle.hm_btree.specs.declared.upper.Upper.{Upper}

-- a place without its parent asks for no count, no level and no `mirror`
abbrev pub loose : Subtree → Subtree
loose place = record place { parent = None }

-- a place between these boundaries, without a parent
abbrev pub between : Base → Base → Subtree
between left right = record { at = 0; left = left; right = right; parent = None }

-- What a call that works at one key makes of a node, where the pages are told: it may leave it with too few places
-- for where it stands. It needs a fact of what stands at the key.
abbrev pub Shrinks : (List Element → List Element) → Key → Marking → (Option Element → Type 0) → Option PageMap → Option PageMap → Node → Node → Type 0
Shrinks f key marking Needs old new before after =
    IfSome old (λ was. (place : Subtree) (height : ℕ) → IsTree was height place before → IsInside place.left place.right key
    → Needs (element_at key (elements_in was height before))
    → IfSome new (λ is. Changed f key marking (loose place) height was is before after))

-- an element stands at a key below a node, which is sound with all below it
pub record HoldsElement (key : Key) (node : Node) (map : PageMap) : Type 0 where
  pub place : Subtree
  pub height : ℕ
  pub tree : IsTree map height place node
  pub inside : IsInside place.left place.right key
  pub there : IsSome (element_at key (elements_in map height node))

-- a node that may stand below an inner node of this level
abbrev pub IsLevelBelow : ℕ → Node → Type 0
IsLevelBelow level node = IsShaped node × (level_of node + 1 ≡ level)

-- an inner node has two children at least
abbrev pub HasNeighbours : Node → Type 0
HasNeighbours (leaf_node leaf) = ⊤
HasNeighbours (inner_node inner) = 2 ≤ array_vec_len inner.places

-- how many places the left one of two nodes gets when they share theirs
abbrev pub share_of : ℕ → ℕ → ℕ
share_of left right = (left + right) / 2

-- Two neighbours become one that has the elements of both, or share them out where they are too many. The one that
-- gets some of the other's takes over a part of its range, and so its `mirror` where that is greater.
abbrev pub JoinsLeaves : Leaf → Leaf → Leaf → Option Upper → Type 0
JoinsLeaves a b lower None =
    (lower ≡ leaf_of (max a.mirror b.mirror) (a.places.items ++ b.places.items)) × (length (a.places.items ++ b.places.items) ≤ 63)
JoinsLeaves a b lower (Some upper) =
    let count = share_of (array_vec_len a.places) (array_vec_len b.places) in
    let gains = nat_lt (array_vec_len a.places) count in
    let most = max a.mirror b.mirror in
    let all = a.places.items ++ b.places.items in
    (lower ≡ leaf_of (if gains then most else a.mirror) (take count all))
    × (upper.node ≡ leaf_node (leaf_of (if gains then b.mirror else most) (drop count all)))
    × FirstAt (drop count all) upper.left × (64 ≤ length all)

-- the same of inner nodes and their children
abbrev pub JoinsInners : Inner → Inner → Inner → Option Upper → Type 0
JoinsInners a b lower None =
    (lower ≡ inner_of a.level (max a.mirror b.mirror) (a.places.items ++ b.places.items) b.right) × (length (a.places.items ++ b.places.items) ≤ 62)
JoinsInners a b lower (Some upper) =
    let count = share_of (array_vec_len a.places) (array_vec_len b.places) in
    let gains = nat_lt (array_vec_len a.places) count in
    let most = max a.mirror b.mirror in
    let all = a.places.items ++ b.places.items in
    (lower ≡ inner_of a.level (if gains then most else a.mirror) (take count all) (left_of (drop count all) a.right))
    × (upper.node ≡ inner_node (inner_of b.level (if gains then b.mirror else most) (drop count all) b.right))
    × (upper.left ≡ left_of (drop count all) a.right) × (63 ≤ length all)

abbrev pub Joins : Node → Node → Node → Option Upper → Type 0
Joins (leaf_node a) (leaf_node b) (leaf_node lower) upper = JoinsLeaves a b lower upper
Joins (leaf_node a) (leaf_node b) (inner_node lower) upper = ⊥
Joins (leaf_node a) (inner_node b) lower upper = ⊥
Joins (inner_node a) (leaf_node b) lower upper = ⊥
Joins (inner_node a) (inner_node b) (leaf_node lower) upper = ⊥
Joins (inner_node a) (inner_node b) (inner_node lower) upper = JoinsInners a b lower upper

-- Two neighbours, on both sides of a boundary, of which neither is written. Together they have these elements, and
-- the marks came from these by a change at a key.
pub record Beside (key : Key) (marking : Marking) (height : ℕ) (old mid : PageMap) (olds : ℕ → Bool) (want : List Element)
    (were : Key → ℕ) (left right : Base) (lower upper : Node) (at : Base) : Type 0 where
  pub lower_tree : IsTree mid height (between left at) lower
  pub upper_tree : IsTree mid height (between at right) upper
  pub elements : elements_in mid height lower ++ elements_in mid height upper ≡ want
  pub mark : MarksWithin marking key left right were (λ k. if is_lt (key_cmp k (key_of at)) then mark_in mid height lower k else mark_in mid height upper k)
  pub pages : Replaces olds (λ x. reaches mid height lower x || reaches mid height upper x) old mid
  pub bound : IsBound at
  pub from : IsBefore (key_of left) (key_of at)
  pub to : IsBefore (key_of at) (key_of right)

-- of two neighbours on both sides of a boundary, the one whose range has the key has too few places
abbrev pub IsSmallAt : Key → Base → Node → Node → Type 0
IsSmallAt key at lower upper = (IsBefore key (key_of at) × (count_of lower < 16)) ⊎ (IsFrom (key_of at) key × (count_of upper < 16))

-- where they are leaves, the marks of both are these yet
abbrev pub LeavesHave : (Key → ℕ) → Base → Node → Node → Type 0
LeavesHave marks at (leaf_node a) (leaf_node b) = (k : Key) → marks k ≡ (if is_lt (key_cmp k (key_of at)) then a.mirror else b.mirror)
LeavesHave marks at (leaf_node a) (inner_node b) = ⊤
LeavesHave marks at (inner_node a) upper = ⊤

-- two neighbours that have enough places
pub record Shared (key : Key) (marking : Marking) (height : ℕ) (old mid : PageMap) (olds : ℕ → Bool) (want : List Element)
    (were : Key → ℕ) (left right : Base) (lower upper : Node) (at : Base) : Type 0 where
  pub beside : Beside key marking height old mid olds want were left right lower upper at
  pub lower_many : least_count lower ≤ count_of lower
  pub upper_many : least_count upper ≤ count_of upper

-- the same of one node
pub record Joined (key : Key) (marking : Marking) (height : ℕ) (old mid : PageMap) (olds : ℕ → Bool) (want : List Element)
    (were : Key → ℕ) (left right : Base) (node : Node) : Type 0 where
  pub tree : IsTree mid height (between left right) node
  pub many : least_count node ≤ count_of node
  pub elements : elements_in mid height node ≡ want
  pub mark : MarksWithin marking key left right were (mark_in mid height node)
  pub pages : Replaces olds (reaches mid height node) old mid

-- whether an offset is that of a node below one of two children
abbrev pub below_both : PageMap → ℕ → Child → Child → ℕ → Bool
below_both map height a b x = reaches map height (node_at map a.child) x || reaches map height (node_at map b.child) x

-- an inner node of whose children two neighbours were joined: the nodes that they became are written, and a page
-- that is not needed goes
abbrev pub IsRejoined : Inner → ℕ → Node → Option Upper → PageMap → PageMap → Inner → Type 0
IsRejoined before i lower None old new after =
    (a b : Child) → slice_get before.places.items i ≡ Some a → slice_get before.places.items (i + 1) ≡ Some b
    → ((mid : PageMap) × HasWritten a.child lower old mid × HasLost b.child mid new)
    × (after ≡ inner_of before.level (max before.mirror (mirror_of lower)) (take i before.places.items ++ with_mirror
    (mirror_of lower) a ∷ drop (i + 2) before.places.items) before.right)
IsRejoined before i lower (Some upper) old new after =
    (a b : Child) → slice_get before.places.items i ≡ Some a → slice_get before.places.items (i + 1) ≡ Some b
    → ((mid : PageMap) × HasWritten a.child lower old mid × HasWritten b.child upper.node mid new)
    × (after ≡ inner_of before.level (max (max before.mirror (mirror_of lower)) (mirror_of upper.node))
    (take i before.places.items ++ with_mirror (mirror_of lower) a ∷ record {
      left = upper.left;
      child = b.child;
      mirror = mirror_of upper.node;
    } ∷ drop (i + 2) before.places.items) before.right)

-- the node of a child at a place, where the child's page holds it
abbrev pub IsChildNode : Inner → ℕ → PageMap → Node → Type 0
IsChildNode inner i map node = (c : Child) → slice_get inner.places.items i ≡ Some c → node_at map c.child ≡ node

-- two neighbouring children of an inner node, whose nodes are these, were joined
pub record IsPairJoined (before : Inner) (i : ℕ) (left right : Node) (old new : PageMap) (after : Inner) : Type 0 where
  pub lower : Node
  pub upper : Option Upper
  pub joins : Joins left right lower upper
  pub rejoined : IsRejoined before i lower upper old new after

-- a child at a place, whose node is this one and is not written, was joined with the child after it or before it
abbrev pub IsJoinedAt : Inner → ℕ → Node → PageMap → PageMap → Inner → Type 0
IsJoinedAt before i child old new after =
    ((i + 1 < array_vec_len before.places) × (right : Node) × IsChildNode before (i + 1) old right × IsPairJoined before i child right old new after)
    ⊎ ((j : ℕ) × (j + 1 ≡ i) × (left : Node) × IsChildNode before j old left × IsPairJoined before j left child old new after)

-- The child of an inner node that holds a key changed in a map of pages. Its node is this one, which is not written
-- and may have too few places. All this was sound before.
pub record IsShrunk (inner : Inner) (i : ℕ) (node : Node) (now : PageMap) : Type 0 where
  pub f : List Element → List Element
  pub key : Key
  pub local : IsLocal f key
  pub old : PageMap
  pub place : Subtree
  pub height : ℕ
  pub tree : IsTree old (suc height) place (inner_node inner)
  pub inside : IsInside place.left place.right key
  pub holder : i ≡ holder_place key inner.places.items
  pub child : Child
  pub at : slice_get inner.places.items i ≡ Some child
  pub change : Changed f key TakesOut (loose (child_place inner.level (next_left inner.right (drop (suc i) inner.places.items))
      child)) height old now (node_at old child.child) node

-- the same tree stands from another root on, whose node is this one
pub record IsLowered (old new : PageMap) (root root' : ℕ) (node : Node) : Type 0 where
  pub tree : IsTreeSpace new root'
  pub here : node_at new root' ≡ node
  pub elements : elements_of new root' ≡ elements_of old root
  pub mark : (key : Key) → mark_of new root' key ≡ mark_of old root key

-- the one child of an inner node stands at this offset
abbrev pub IsOnlyChild : Node → ℕ → Type 0
IsOnlyChild (leaf_node leaf) at = ⊥
IsOnlyChild (inner_node inner) at = (child : Child) × (inner.places.items ≡ child ∷ []) × (child.child ≡ at)
