-- The tree that a space of nodes holds.
use Rattle.std.specs.Prelude.{◌≡◌, ℕ, Bool, true, false, List, [], Option, None, Some, IsSome, IfSome, ⊤}
use Rattle.hm_types.specs.Elements.{Key}
use Rattle.hm_fields.specs.Pages.{PageMap}
use Rattle.hm_key.specs.declared.element.Element.{Element}
use Rattle.hm_search.specs.Tree.{IsSoundTree, IsWhole, elements_of, mark_of}
use Rattle.hm_btree.specs.Marking.{Marking, MarksBy}
use Rattle.hm_btree.specs.Space.{IsSpot}

-- a space has no page
abbrev pub HasNoPage : PageMap → Type 0
HasNoPage pages = (at : ℕ) → pages at ≡ None

-- the pages from the root on are a sound tree, no page stands beside it, and each stands where a node may
pub record IsTreeSpace (pages : PageMap) (root : ℕ) : Type 0 where
  pub sound : IsSoundTree pages root
  pub whole : IsWhole pages root
  pub spots : (at : ℕ) → IsSome (pages at) → IsSpot at

-- a tree changed: its list of elements and the marks in these ways, at a key
pub record TreeChanged (f : List Element → List Element) (key : Key) (marking : Marking) (old new : PageMap) (root root' : ℕ) : Type 0 where
  pub tree : IsTreeSpace new root'
  pub elements : elements_of new root' ≡ f (elements_of old root)
  pub mark : MarksBy marking key (mark_of old root) (mark_of new root')

-- a call changes a tree so, where what stands at the key is as it needs
abbrev pub ChangesTree : (List Element → List Element) → Key → Marking → (List Element → Type 0) → Option PageMap → Option PageMap → ℕ → ℕ → Type 0
ChangesTree f key marking Needs old new root root' =
    IfSome old (λ was. IsTreeSpace was root → Needs (elements_of was root) → IfSome new (λ is. TreeChanged f key marking was is root root'))

-- the pages, where they are told, are the tree from this root on
abbrev pub HoldsTree : Option PageMap → ℕ → Type 0
HoldsTree told root = ∥ IfSome told (λ pages. IsTreeSpace pages root) ∥₁

-- they are, where the tree is intact
abbrev pub IsIntact : Bool → Option PageMap → ℕ → Type 0
IsIntact false told root = ⊤
IsIntact true told root = IfSome told (λ pages. IsTreeSpace pages root)

-- the elements of the tree, which are told where it is intact and its pages are told
abbrev pub told_elements : Bool → Option PageMap → ℕ → Option (List Element)
told_elements false pages root = None
told_elements true None root = None
told_elements true (Some pages) root = Some (elements_of pages root)

-- the marks of the tree
abbrev pub told_mark : Option PageMap → ℕ → Key → ℕ
told_mark None root key = 0
told_mark (Some pages) root key = mark_of pages root key

-- a tree tells that it has no element, and that no key has a mark
pub record HasNothing (intact : Bool) (told : Option PageMap) (root : ℕ) : Type 0 where
  pub elements : told_elements intact told root ≡ Some []
  pub marks : (key : Key) → told_mark told root key ≡ 0
