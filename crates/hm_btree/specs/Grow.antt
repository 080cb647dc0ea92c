-- A node that grew, and may have become two.
use Rattle.std.specs.Prelude.{◌≡◌, ℕ, ◌+◌, ◌≤◌, ◌||◌, max, if◌then◌else◌, List, [], ◌∷◌, ◌++◌, length, take, drop, Option, None, Some, IfSome}
use Rattle.std.specs.Ordering.{is_lt}
use Rattle.hm_types.specs.Elements.{Key, key_cmp}
use Rattle.hm_types.specs.Told.{BothTell}
use Rattle.hm_fields.specs.Pages.{PageMap}
use Rattle.hm_key.specs.Key.{key_of, IsBefore, IsBoundary}
use Rattle.hm_key.specs.Elements.{element_at, element_key}
use Rattle.hm_key.specs.Extents.{Extent}
use Rattle.hm_key.specs.declared.base.Base.{Base}
use Rattle.hm_key.specs.declared.element.Element.{Element}
use Rattle.hm_node.specs.Inner.{IsBound}
use Rattle.hm_node.specs.Node.{count_of, level_of, node_in}
use Rattle.hm_node.specs.declared.inner.Child.{Child}
use Rattle.hm_node.specs.declared.inner.Inner.{Inner}
use Rattle.hm_node.specs.declared.leaf.Leaf.{Leaf}
use Rattle.hm_node.specs.declared.node.Node.{Node}
use Rattle.hm_node.specs.declared.node.Node.TheVariants.{Leaf as leaf_node, Inner as inner_node}
use Rattle.hm_search.specs.Place.{IsInside, least_count, mirror_of}
use Rattle.hm_search.specs.Tree.{elements_in, mark_in, reaches, IsTree}
use Rattle.hm_search.specs.declared.subtree.Subtree.{Subtree}
use Rattle.hm_btree.specs.Marking.{Marking, MarksWithin}
use Rattle.hm_btree.specs.Below.{Replaces, Changed, placed}
use Rattle.hm_btree.specs.Edits.{leaf_of, inner_of, left_of, LeavesBoth}
use Rattle.hm_btree.specs.Space.{HasAdded, IsSpot}
use Rattle.hm_btree.specs.declared.upper.Upper.{Upper}

-- A node and all below it changed, as `Changed` says, and became two, of which neither is written. The upper one
-- begins at a boundary inside those of the node.
pub record Split (f : List Element → List Element) (key : Key) (marking : Marking) (place : Subtree) (height : ℕ)
    (old new : PageMap) (before lower upper : Node) (at : Base) : Type 0 where
  pub lower_tree : IsTree new height (placed lower (record place { right = at })) lower
  pub upper_tree : IsTree new height (placed upper (record place { left = at })) upper
  pub lower_many : least_count lower ≤ count_of lower
  pub upper_many : least_count upper ≤ count_of upper
  pub elements : elements_in new height lower ++ elements_in new height upper ≡ f (elements_in old height before)
  pub mark : MarksWithin marking key place.left place.right (mark_in old height before)
      (λ k. if is_lt (key_cmp k (key_of at)) then mark_in new height lower k else mark_in new height upper k)
  pub pages : Replaces (reaches old height before) (λ x. reaches new height lower x || reaches new height upper x) old new
  pub bound : IsBound at
  pub from : IsBefore (key_of place.left) (key_of at)
  pub to : IsBefore (key_of at) (key_of place.right)

-- a node and all below it changed, and it is one still, or two
abbrev pub GrownTo : (List Element → List Element) → Key → Marking → Subtree → ℕ → PageMap → PageMap → Node → Node → Option Upper → Type 0
GrownTo f key marking place height old new before after None = Changed f key marking place height old new before after
GrownTo f key marking place height old new before after (Some upper) = Split f key marking place height old new before after upper.node upper.left

-- what a call that may make a node two makes of one, where the pages are told: it needs a fact of what stands at
-- the key
abbrev pub Grows : (List Element → List Element) → Key → Marking → (Option Element → Type 0) → Option PageMap → Option PageMap
    → Node → Node → Option Upper → Type 0
Grows f key marking Needs old new before after upper =
    IfSome old (λ was. (place : Subtree) (height : ℕ) → IsTree was height place before → IsInside place.left place.right key
    → Needs (element_at key (elements_in was height before))
    → IfSome new (λ is. GrownTo f key marking place height was is before after upper))

-- the upper part of a node that became two, from its boundary and its page
abbrev pub upper_at : Base → List ℕ → Upper
upper_at left page = record { left = left; node = node_in page }

-- the same where the node became two
abbrev pub upper_of : Option Base → List ℕ → Option Upper
upper_of None page = None
upper_of (Some left) page = Some (upper_at left page)

-- a boundary at the first of some elements
abbrev pub FirstAt : List Element → Base → Type 0
FirstAt [] left = ⊥
FirstAt (e ∷ es) left = IsBoundary left (element_key e)

-- a leaf that shall have these elements has them, or so many of them, and its upper part has the others
abbrev pub LeafBecomes : ℕ → List Element → Leaf → Option Upper → Type 0
LeafBecomes mirror es leaf None = (leaf ≡ leaf_of mirror es) × (length es ≤ 63)
LeafBecomes mirror es leaf (Some upper) =
    (lower : ℕ) × LeavesBoth 64 lower × (length es ≡ 64) × (leaf ≡ leaf_of mirror (take lower es))
    × (upper.node ≡ leaf_node (leaf_of mirror (drop lower es))) × FirstAt (drop lower es) upper.left

-- the same of an inner node and its children
abbrev pub InnerBecomes : ℕ → ℕ → List Child → Base → Inner → Option Upper → Type 0
InnerBecomes level mirror cs right inner None = (inner ≡ inner_of level mirror cs right) × (length cs ≤ 62)
InnerBecomes level mirror cs right inner (Some upper) =
    (lower : ℕ) × LeavesBoth 63 lower × (length cs ≡ 63) × (inner ≡ inner_of level mirror (take lower cs) (left_of (drop lower cs) right))
    × (upper.node ≡ inner_node (inner_of level mirror (drop lower cs) right)) × (upper.left ≡ left_of (drop lower cs) right)

-- the root above two nodes, of which the upper one stands at an offset of its own
abbrev pub top_of : Subtree → Node → Upper → ℕ → Node
top_of place lower upper at =
    inner_node (inner_of (level_of lower + 1) (max (mirror_of lower) (mirror_of upper.node))
    (record { left = place.left; child = place.at; mirror = mirror_of lower }
    ∷ record { left = upper.left; child = at; mirror = mirror_of upper.node } ∷ []) place.right)

-- a root was added at an offset, above a node that stands where the root stood and one that was added
abbrev pub HasTop : Subtree → Node → Upper → ℕ → PageMap → PageMap → Type 0
HasTop place lower upper top old new =
    (mid : PageMap) × (at : ℕ) × IsSpot at × HasAdded at upper.node old mid × HasAdded top (top_of place lower upper at) mid new

-- The same of pages that may be told: the root stands where a node may, above at most eight levels, and the extents
-- are the same.
pub record AddsTop {S : Type 0} (pages_of : S → Option PageMap) (extents_of : S → Option (List Extent)) (place : Subtree)
    (lower : Node) (upper : Upper) (old new : S) (top : ℕ) : Type 0 where
  pub told : BothTell (pages_of old) (pages_of new) (HasTop place lower upper top)
  pub spot : IsSpot top
  pub shallow : level_of lower ≤ 8
  pub extents : extents_of new ≡ extents_of old
