-- Descents over any pages, sound or not: to which places one comes, and what it may tell there.
use Rattle.std.specs.Prelude.{◌≡◌, ℕ, zero, suc, ◌+◌, Option, Some, None, Result, IfSome, IsSome, IfErr, slice_get, ⊤}
use Rattle.hm_types.specs.Faults.{HasFaultCause, IsUndamaged}
use Rattle.hm_types.specs.declared.fault.Fault.{Fault}
use Rattle.hm_types.specs.declared.fault.Fault.TheVariants.{Media, Damaged, NoMemory}
use Rattle.hm_types.specs.declared.limits.TheConstants.{MOST_LEVELS}
use Rattle.hm_fields.specs.Pages.{PageMap, page_in}
use Rattle.hm_node.specs.Node.{HasCount, HasFields, HasLevel, IsNode, Spells}
use Rattle.hm_node.specs.declared.inner.Inner.{Inner}
use Rattle.hm_node.specs.declared.node.Node.{Node}
use Rattle.hm_node.specs.declared.node.Node.TheVariants.{Inner as inner_node}
use Rattle.hm_search.specs.Place.{Fits, MeetsBy, TellsDamage, TellsUnmet}
use Rattle.hm_search.specs.Tree.{children_of, IsStoredTree}
use Rattle.hm_search.specs.declared.place_rule.PlaceRule.{PlaceRule}
use Rattle.hm_search.specs.declared.subtree.Parent.{Parent}
use Rattle.hm_search.specs.declared.subtree.Subtree.{Subtree}

-- the level of a parent, and one more than the greatest where there is none
abbrev pub levels_under : Option Parent → ℕ
levels_under None = MOST_LEVELS + 1
levels_under (Some parent) = parent.level

-- how many levels may be from a place down: a measure of descents
abbrev pub levels_below : Subtree → ℕ
levels_below subtree = levels_under subtree.parent

-- A node that a read may give at a place: it is sound where it stands, and where a page is there, that page spells
-- it. Where none is there, it may be any.
pub record StandsHere (map : PageMap) (subtree : Subtree) (node : Node) : Type 0 where
  pub sound : IsNode node
  pub fits : Fits subtree node
  pub spelled : IsSome (map subtree.at) → Spells (page_in (map subtree.at)) node

-- a read may give an inner node at the first place, and the second is the place of one of its children
abbrev pub LeadsToChild : PageMap → Subtree → Subtree → Type 0
LeadsToChild map from to =
    (inner : Inner) × StandsHere map from (inner_node inner)
    × (i : ℕ) × (slice_get (children_of inner) i ≡ Some to)

-- so many steps down lead from the first place to the second
abbrev pub Descends : PageMap → ℕ → Subtree → Subtree → Type 0
Descends map zero from to = from ≡ to
Descends map (suc steps) from to = (next : Subtree) × LeadsToChild map from next × Descends map steps next to

-- damage is told of a place only to which a descent comes, and only where no page is there, or it breaks a rule
-- there: then with the lowest number of such a rule
abbrev pub IsFaultBelow : PageMap → Subtree → Fault → Type 0
IsFaultBelow map from (Media before after) = ⊤
IsFaultBelow map from (Damaged at kind) =
    (steps : ℕ) × (to : Subtree) × Descends map steps from to
    × TellsDamage to (map to.at) (Damaged at kind)
IsFaultBelow map from NoMemory = ⊤

-- a search changes nothing
pub record Reads {P F R : Type 0} (name_of : P → ℕ) (frame_of : P → F) (rest_of : P → R)
    (pages_of : P → Option PageMap) (old new : P) : Type 0 where
  pub name : name_of new ≡ name_of old
  pub frame : frame_of new ≡ frame_of old
  pub rest : rest_of new ≡ rest_of old
  pub pages : pages_of new ≡ pages_of old

-- A node that a search may come to at a place: it has the shape of one, the search finds no rule of the place broken, and
-- where a page is there, that page spells it. Its order and its own `mirror` are not looked at.
pub record PassesHere (map : PageMap) (subtree : Subtree) (node : Node) : Type 0 where
  pub level : HasLevel node
  pub count : HasCount node
  pub fields : HasFields node
  pub meets : (rule : PlaceRule) → MeetsBy subtree node rule
  pub spelled : IsSome (map subtree.at) → Spells (page_in (map subtree.at)) node

-- a search may go from the first place to the second: that of a child of the node there
abbrev pub GoesTo : PageMap → Subtree → Subtree → Type 0
GoesTo map from to =
    (inner : Inner) × PassesHere map from (inner_node inner)
    × (i : ℕ) × (slice_get (children_of inner) i ≡ Some to)

-- so many steps down lead a search from the first place to the second
abbrev pub Goes : PageMap → ℕ → Subtree → Subtree → Type 0
Goes map zero from to = from ≡ to
Goes map (suc steps) from to = (next : Subtree) × GoesTo map from next × Goes map steps next to

-- damage is told of a place only to which a search comes, and only where no page is there, or its node breaks a rule of
-- the place: then with the lowest number of such a rule
abbrev pub IsUnmetBelow : PageMap → Subtree → Fault → Type 0
IsUnmetBelow map from (Media before after) = ⊤
IsUnmetBelow map from (Damaged at kind) =
    (steps : ℕ) × (to : Subtree) × Goes map steps from to × TellsUnmet to (map to.at) (Damaged at kind)
IsUnmetBelow map from NoMemory = ⊤

-- Each fault of a search that begins at a place has its cause: the count of faults rose, or a page on the way is not what
-- its parent says; so none tells of damage where a sound tree begins there.
pub record HasSearchCause {T : Type 0} (told : Option PageMap) (from : Subtree) (old new : ℕ)
    (result : Result T Fault) : Type 0 where
  pub counted : HasFaultCause old new result
  pub damage : IfSome told (λ map. IfErr result (IsUnmetBelow map from))
  pub undamaged : IfSome told (λ map. (height : ℕ) → IsStoredTree map height from → IfErr result IsUndamaged)
