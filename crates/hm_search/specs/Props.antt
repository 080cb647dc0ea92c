-- Facts of ghost fields have one proof at most.
use Rattle.std.specs.Prelude.{ℕ, zero, suc, List, [], ◌∷◌, Option, None, Some}
use Rattle.std.specs.List.{AllByRecursion-prop}
use Rattle.std.proofs.Props.{props}
use Rattle.hm_fields.specs.Pages.{PageMap}
use Rattle.hm_key.specs.declared.base.Base.{Base}
use Rattle.hm_node.specs.Props.{IsNode-prop, Spells-prop}
use Rattle.hm_node.specs.declared.inner.Child.{Child}
use Rattle.hm_node.specs.declared.node.Node.{Node}
use Rattle.hm_node.specs.declared.node.Node.TheVariants.{Leaf, Inner as inner_node}
use Rattle.hm_search.specs.Place.{FitsLevel, FitsCount, FitsBounds, FitsMirror, BeginsAt, Fits}
use Rattle.hm_search.specs.Tree.{node_at, children_of, HasChildren, IsStoredWith, IsStoredTree, IsSoundTree, IsWhole, root_place, height_of}
use Rattle.hm_search.specs.declared.subtree.Parent.{Parent}
use Rattle.hm_search.specs.declared.subtree.Subtree.{Subtree}

FitsLevel-prop : (p : Option Parent) (node : Node) → IsProp (FitsLevel p node)
FitsLevel-prop None node = hlevel props
FitsLevel-prop (Some parent) node = hlevel props

FitsCount-prop : (p : Option Parent) (node : Node) → IsProp (FitsCount p node)
FitsCount-prop None node = hlevel props
FitsCount-prop (Some parent) node = hlevel props

BeginsAt-prop : (left : Base) (cs : List Child) → IsProp (BeginsAt left cs)
BeginsAt-prop left [] = hlevel props
BeginsAt-prop left (c ∷ cs) = hlevel props

FitsBounds-prop : (left right : Base) (node : Node) → IsProp (FitsBounds left right node)
FitsBounds-prop left right (Leaf leaf) = hlevel props
FitsBounds-prop left right (inner_node inner) = hlevel (BeginsAt-prop, props)

FitsMirror-prop : (p : Option Parent) (node : Node) → IsProp (FitsMirror p node)
FitsMirror-prop None node = hlevel props
FitsMirror-prop (Some parent) node = hlevel props

pub Fits-prop : (s : Subtree) (node : Node) → IsProp (Fits s node)
Fits-prop s node = hlevel (FitsLevel-prop, FitsCount-prop, FitsBounds-prop, FitsMirror-prop, props)

IsStoredWith-prop : (Below : Node → Type 0) (map : PageMap) (height : ℕ) (s : Subtree)
    → ((node : Node) → IsProp (Below node)) → IsProp (IsStoredWith Below map height s)
IsStoredWith-prop Below map height s below = hlevel (below, IsNode-prop, Spells-prop, Fits-prop, props)

pub HasChildren-prop : (map : PageMap) (height : ℕ) (node : Node) → IsProp (HasChildren map height node)
HasChildren-prop map zero node = hlevel props
HasChildren-prop map (suc height) (Leaf leaf) = hlevel props
HasChildren-prop map (suc height) (inner_node inner) =
    AllByRecursion-prop (IsStoredTree map height)
    (λ s. IsStoredWith-prop (HasChildren map height) map height s (HasChildren-prop map height))
    (children_of inner)

pub IsSoundTree-prop : (map : PageMap) (root : ℕ) → IsProp (IsSoundTree map root)
IsSoundTree-prop map root =
    let height = height_of (node_at map root) in
    IsStoredWith-prop (HasChildren map height) map height (root_place root) (HasChildren-prop map height)

pub IsWhole-prop : (map : PageMap) (root : ℕ) → IsProp (IsWhole map root)
IsWhole-prop map root = hlevel props
