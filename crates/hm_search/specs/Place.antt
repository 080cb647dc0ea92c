-- What a node must be where it stands: the rules that its own page does not tell.
use Rattle.std.specs.Prelude.{◌≡◌, ◌⊎◌, ℕ, ◌+◌, ◌-◌, ◌<◌, ◌≤◌, List, [], ◌∷◌, Option, None, Some, All, IfSome, slice_get, ⊤}
use Rattle.arrayvec.specs.ArrayVec.{array_vec_len}
use Rattle.hm_types.specs.declared.damage.TheConstants.{BAD_LEVEL, BAD_COUNT, BAD_BOUNDS, BAD_MIRROR}
use Rattle.hm_types.specs.declared.fault.Fault.{Fault}
use Rattle.hm_types.specs.declared.fault.Fault.TheVariants.{Media, Damaged, NoMemory}
use Rattle.hm_types.specs.declared.limits.TheConstants.{LEAST_PLACES}
use Rattle.hm_types.specs.Elements.{Key}
use Rattle.hm_key.specs.Key.{key_of, IsBefore, IsFrom}
use Rattle.hm_key.specs.Elements.{element_key}
use Rattle.hm_key.specs.declared.base.Base.{Base}
use Rattle.hm_key.specs.declared.element.Element.{Element}
use Rattle.hm_node.specs.Damage.{Keeps, number_of}
use Rattle.hm_node.specs.Node.{node_in, level_of, count_of, IsNode, Spells}
use Rattle.hm_node.specs.declared.inner.Child.{Child}
use Rattle.hm_node.specs.declared.node.Node.{Node}
use Rattle.hm_node.specs.declared.node.Node.TheVariants.{Leaf as leaf_node, Inner as inner_node}
use Rattle.hm_node.specs.declared.rule.Rule.{Rule}
use Rattle.hm_search.specs.declared.place_rule.PlaceRule.{PlaceRule}
use Rattle.hm_search.specs.declared.place_rule.PlaceRule.TheVariants.{Level, Count, Bounds, Mirror}
use Rattle.hm_search.specs.declared.subtree.Parent.{Parent}
use Rattle.hm_search.specs.declared.subtree.Subtree.{Subtree}

-- the `mirror` of a node
abbrev pub mirror_of : Node → ℕ
mirror_of (leaf_node leaf) = leaf.mirror
mirror_of (inner_node inner) = inner.mirror

-- a key lies inside boundaries: it is not before the left one, and before the right one
pub record IsInside (left right : Base) (key : Key) : Type 0 where
  pub from : IsFrom (key_of left) key
  pub before : IsBefore key (key_of right)

-- the level of a node below the root is its parent's less 1
abbrev pub FitsLevel : Option Parent → Node → Type 0
FitsLevel None node = ⊤
FitsLevel (Some parent) node = level_of node + 1 ≡ parent.level

-- how many elements or children a node below the root has at least
abbrev pub least_count : Node → ℕ
least_count (leaf_node leaf) = 1
least_count (inner_node inner) = LEAST_PLACES

-- below the root, a leaf has an element, and an inner node 16 children
abbrev pub FitsCount : Option Parent → Node → Type 0
FitsCount None node = ⊤
FitsCount (Some parent) node = least_count node ≤ count_of node

-- the first of these children begins at a left boundary
abbrev pub BeginsAt : Base → List Child → Type 0
BeginsAt left [] = ⊥
BeginsAt left (c ∷ cs) = key_of c.left ≡ key_of left

-- The elements of a leaf lie inside the boundaries. An inner node's first boundary is the left one, and its
-- right boundary is the right one; its others lie between them, since they rise.
abbrev pub FitsBounds : Base → Base → Node → Type 0
FitsBounds left right (leaf_node leaf) = All (λ e. IsInside left right (element_key e)) leaf.places.items
FitsBounds left right (inner_node inner) =
    BeginsAt left inner.places.items × (key_of inner.right ≡ key_of right)

-- the `mirror` of a node below the root is the one that its parent has for it
abbrev pub FitsMirror : Option Parent → Node → Type 0
FitsMirror None node = ⊤
FitsMirror (Some parent) node = mirror_of node ≡ parent.mirror

-- a node that is what its place asks for
pub record Fits (subtree : Subtree) (node : Node) : Type 0 where
  pub level : FitsLevel subtree.parent node
  pub count : FitsCount subtree.parent node
  pub bounds : FitsBounds subtree.left subtree.right node
  pub mirror : FitsMirror subtree.parent node

-- one of these rules
abbrev pub FitsBy : Subtree → Node → PlaceRule → Type 0
FitsBy subtree node Level = FitsLevel subtree.parent node
FitsBy subtree node Count = FitsCount subtree.parent node
FitsBy subtree node Bounds = FitsBounds subtree.left subtree.right node
FitsBy subtree node Mirror = FitsMirror subtree.parent node

-- the number under which a rule of the place is told when it is broken
abbrev pub place_number : PlaceRule → ℕ
place_number Level = BAD_LEVEL
place_number Count = BAD_COUNT
place_number Bounds = BAD_BOUNDS
place_number Mirror = BAD_MIRROR

-- a page that spells a node which keeps its own rules and those of its place
pub record SpellsHere (subtree : Subtree) (page : List ℕ) (node : Node) : Type 0 where
  pub spelled : Spells page node
  pub sound : IsNode node
  pub fits : Fits subtree node

-- the page breaks a rule with this number, one of its own or one of its place
abbrev pub Breaks : Subtree → List ℕ → ℕ → Type 0
Breaks subtree page kind =
    ((rule : Rule) × (number_of rule ≡ kind) × (Keeps page rule → ⊥))
    ⊎ ((rule : PlaceRule) × (place_number rule ≡ kind) × (FitsBy subtree (node_in page) rule → ⊥))

-- the page keeps each rule with a lower number than this one
pub record KeepsBelow (subtree : Subtree) (page : List ℕ) (kind : ℕ) : Type 0 where
  pub own : (rule : Rule) → number_of rule < kind → Keeps page rule
  pub place : (rule : PlaceRule) → place_number rule < kind → FitsBy subtree (node_in page) rule

-- the lowest number of a rule that the page breaks where it stands
pub record IsLowestBroken (subtree : Subtree) (page : List ℕ) (kind : ℕ) : Type 0 where
  pub broken : Breaks subtree page kind
  pub kept : KeepsBelow subtree page kind

-- a fault that tells damage tells it of this place, and where a page is there, with the lowest number of a rule that
-- it breaks
abbrev pub TellsDamage : Subtree → Option (List ℕ) → Fault → Type 0
TellsDamage subtree page (Media before after) = ⊤
TellsDamage subtree page (Damaged at kind) = (at ≡ subtree.at) × IfSome page (λ bytes. IsLowestBroken subtree bytes kind)
TellsDamage subtree page NoMemory = ⊤

-- the element at a place of a leaf, where it has so many, lies inside boundaries
abbrev pub IsInsideAt : Base → Base → List Element → ℕ → Type 0
IsInsideAt left right es i = IfSome (slice_get es i) (λ e. IsInside left right (element_key e))

-- The rule of boundaries as a search checks it, at a cost that does not grow with the node: of a leaf, the first and
-- the last element lie inside them. Where the elements are in order, so do all.
abbrev pub MeetsBounds : Base → Base → Node → Type 0
MeetsBounds left right (leaf_node leaf) =
    IsInsideAt left right leaf.places.items 0 × IsInsideAt left right leaf.places.items (array_vec_len leaf.places - 1)
MeetsBounds left right (inner_node inner) = FitsBounds left right (inner_node inner)

-- a rule of its place, as a search checks it
abbrev pub MeetsBy : Subtree → Node → PlaceRule → Type 0
MeetsBy subtree node Level = FitsLevel subtree.parent node
MeetsBy subtree node Count = FitsCount subtree.parent node
MeetsBy subtree node Bounds = MeetsBounds subtree.left subtree.right node
MeetsBy subtree node Mirror = FitsMirror subtree.parent node

-- the node in a page breaks a rule of its place, and none with a lower number
pub record IsFirstUnmet (subtree : Subtree) (page : List ℕ) (rule : PlaceRule) : Type 0 where
  pub broken : MeetsBy subtree (node_in page) rule → ⊥
  pub kept : (other : PlaceRule) → place_number other < place_number rule → MeetsBy subtree (node_in page) other

-- damage of this place, with the number of the first rule of it that the node in a page breaks
abbrev pub IsUnmet : Subtree → List ℕ → Fault → Type 0
IsUnmet subtree page fault =
    (rule : PlaceRule) × (fault ≡ Damaged subtree.at (place_number rule)) × IsFirstUnmet subtree page rule

-- A fault that tells damage tells it of this place, and where a page is there, with the lowest number of a rule of the
-- place that its node breaks. The page's own rules were checked where it came from.
abbrev pub TellsUnmet : Subtree → Option (List ℕ) → Fault → Type 0
TellsUnmet subtree page (Media before after) = ⊤
TellsUnmet subtree page (Damaged at kind) =
    (at ≡ subtree.at) × IfSome page (λ bytes. (rule : PlaceRule) × (place_number rule ≡ kind) × IsFirstUnmet subtree bytes rule)
TellsUnmet subtree page NoMemory = ⊤
