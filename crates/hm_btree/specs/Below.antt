-- What a call makes of the pages below a node, and of the tree that they are.
use Rattle.std.specs.Prelude.{◌≡◌, ◌⊎◌, ℕ, ◌||◌, Bool, true, false, nat_eq, List, [], ◌∷◌, ◌++◌, map, Option, None, IsSome, Result, IfSome, IfErr, option_map}
use Rattle.std.specs.List.{flat_map, list_any, AllByRecursion}
use Rattle.std.specs.List.Sorted.{IsStrictlySortedBy}
use Rattle.hm_types.specs.Elements.{Key}
use Rattle.hm_types.specs.Faults.{HasFaultCause, IsUndamaged}
use Rattle.hm_types.specs.declared.fault.Fault.{Fault}
use Rattle.hm_fields.specs.Pages.{PageMap, page_in}
use Rattle.hm_key.specs.Key.{IsBefore}
use Rattle.hm_key.specs.Elements.{element_at, element_key}
use Rattle.hm_key.specs.declared.base.Base.{Base}
use Rattle.hm_key.specs.declared.element.Element.{Element}
use Rattle.hm_node.specs.Base.{base_cmp}
use Rattle.hm_node.specs.Inner.{IsChild}
use Rattle.hm_node.specs.Node.{Spells}
use Rattle.hm_node.specs.declared.inner.Child.{Child}
use Rattle.hm_node.specs.declared.node.Node.{Node}
use Rattle.hm_search.specs.Descent.{IsUnmetBelow, PassesHere}
use Rattle.hm_search.specs.Place.{IsInside, mirror_of}
use Rattle.hm_search.specs.Tree.{node_at, elements_in, mark_in, reaches, at_holder, next_left, places_of, IsTree, IsStoredTree}
use Rattle.hm_search.specs.declared.subtree.Parent.{Parent}
use Rattle.hm_search.specs.declared.subtree.Subtree.{Subtree}
use Rattle.hm_btree.specs.Marking.{Marking, MarksWithin}
use Rattle.hm_btree.specs.Space.{IsSpot}

-- A call works on the pages at some offsets, `olds`, and `news` are those at which its pages stand afterwards.
-- Each other page stays, and no other comes. A page that came stands where none stood.
pub record Replaces (olds news : ℕ → Bool) (old new : PageMap) : Type 0 where
  pub kept : (x : ℕ) → olds x ≡ false → IsSome (old x) → new x ≡ old x
  pub rest : (x : ℕ) → IsSome (new x) → news x ≡ false → (olds x ≡ false) × IsSome (old x)
  pub made : (x : ℕ) → news x ≡ true → olds x ≡ false → old x ≡ None
  pub spots : (x : ℕ) → IsSome (new x) → IsSome (old x) ⊎ IsSpot x

-- the elements of some children of this height, and of all below them
abbrev pub elements_under : PageMap → ℕ → List Child → List Element
elements_under pages height cs = flat_map (λ (c : Child). elements_in pages height (node_at pages c.child)) cs

-- the mark of a key among some children
abbrev pub mark_under : PageMap → ℕ → List Child → Key → ℕ
mark_under pages height cs key = at_holder (λ c. mark_in pages height (node_at pages c.child) key) key cs

-- whether an offset is that of some child, or of a node below it
abbrev pub has_under : PageMap → ℕ → List Child → ℕ → Bool
has_under pages height cs x = list_any (λ (c : Child). nat_eq c.child x || reaches pages height (node_at pages c.child) x) cs

-- some children, before this right boundary, are sound with all below them
abbrev pub AreStored : PageMap → ℕ → ℕ → Base → List Child → Type 0
AreStored pages height level right cs = AllByRecursion (IsStoredTree pages height) (places_of level right cs)

-- their left boundaries, and the right one of the last
abbrev pub bounds_of : Base → List Child → List Base
bounds_of right cs = map (λ (c : Child). c.left) cs ++ right ∷ []

-- each boundary is after the one before it
abbrev pub AreRising : Base → List Child → Type 0
AreRising right cs = IsStrictlySortedBy base_cmp (bounds_of right cs)

-- the page at a place, where one is there, spells this node
abbrev pub SpellsAt : PageMap → Subtree → Node → Type 0
SpellsAt map place node = IsSome (map place.at) → Spells (page_in (map place.at)) node

-- the place of a node as a parent names it that has the node's `mirror`
abbrev pub placed : Node → Subtree → Subtree
placed node place = record place { parent = option_map (λ (p : Parent). record p { mirror = mirror_of node }) place.parent }

-- A change of a list in order that has to do with one key alone: what stands before the key stays in front, and
-- what stands after it stays behind.
pub record IsLocal (f : List Element → List Element) (key : Key) : Type 0 where
  pub front : (xs ys : List Element) → AllByRecursion (λ e. IsBefore (element_key e) key) xs → f (xs ++ ys) ≡ xs ++ f ys
  pub back : (xs ys : List Element) → AllByRecursion (λ e. IsBefore key (element_key e)) ys → f (xs ++ ys) ≡ f xs ++ ys

-- A node and all below it changed: its list of elements and the marks in these ways, at a key. The node's own page
-- is not written yet.
pub record Changed (f : List Element → List Element) (key : Key) (marking : Marking) (place : Subtree) (height : ℕ)
    (old new : PageMap) (before after : Node) : Type 0 where
  pub tree : IsTree new height (placed after place) after
  pub elements : elements_in new height after ≡ f (elements_in old height before)
  pub mark : MarksWithin marking key place.left place.right (mark_in old height before) (mark_in new height after)
  pub pages : Replaces (reaches old height before) (reaches new height after) old new

-- what a call that works at one key makes of a node, where the pages are told: it needs a fact of what stands at
-- the key
abbrev pub Works : (List Element → List Element) → Key → Marking → (Option Element → Type 0) → Option PageMap → Option PageMap → Node → Node → Type 0
Works f key marking Needs old new before after =
    IfSome old (λ was. (place : Subtree) (height : ℕ) → IsTree was height place before → IsInside place.left place.right key
    → Needs (element_at key (elements_in was height before))
    → IfSome new (λ is. Changed f key marking place height was is before after))

-- the same change of some children of one node
pub record ChangedUnder (f : List Element → List Element) (key : Key) (marking : Marking) (level : ℕ) (right : Base) (height : ℕ)
    (old new : PageMap) (before after : List Child) : Type 0 where
  pub stored : AreStored new height level right after
  pub elements : elements_under new height after ≡ f (elements_under old height before)
  pub mark : MarksWithin marking key (next_left right before) right (mark_under old height before) (mark_under new height after)
  pub pages : Replaces (has_under old height before) (has_under new height after) old new
  pub left : next_left right after ≡ next_left right before
  pub rising : AreRising right after
  pub fields : AllByRecursion IsChild after

-- Each fault of a call that works below a node has its cause in the call. It tells of damage only of a place to which it
-- comes, as a search does, from where the node was read, and of the lowest rule of the place that is broken there; of none
-- where the node and all below it are sound.
pub record HasPassCause {T : Type 0} (told : Option PageMap) (node : Node) (old new : ℕ) (result : Result T Fault) : Type 0 where
  pub counted : HasFaultCause old new result
  pub damage : IfSome told (λ pages. (place : Subtree) → PassesHere pages place node → IfErr result (IsUnmetBelow pages place))
  pub undamaged : IfSome told (λ pages. (place : Subtree) (height : ℕ) → IsTree pages height place node → IfErr result IsUndamaged)
