-- Facts of ghost fields have one proof at most.
use Rattle.std.specs.Prelude.{ℕ, List}
use Rattle.std.specs.List.Sorted.{IsStrictlySortedBy-prop}
use Rattle.std.proofs.Common.{arith}
use Rattle.std.proofs.Props.{props}
use Rattle.hm_types.specs.Offset.{IsZone}
use Rattle.hm_key.specs.Props.{IsElement-prop, disjoint_prop}
use Rattle.hm_key.specs.declared.element.Element.{Element}
use Rattle.hm_node.specs.Leaf.{IsPlaced}
use Rattle.hm_node.specs.Node.{HasCount, HasFields, HasLevel, IsNode, Spells}
use Rattle.hm_node.specs.Shape.{HoldsNode}
use Rattle.hm_node.specs.declared.node.Node.{Node}
use Rattle.hm_node.specs.declared.node.Node.TheVariants.{Leaf, Inner as inner_node}

pub IsZone-prop : (zone : ℕ) → IsProp (IsZone zone)
IsZone-prop zone =
    disjoint_prop (hlevel props)
    (disjoint_prop (hlevel props) (hlevel props) (λ is other. omega arith)) (λ is other. omega arith)

pub IsPlaced-prop : (e : Element) → IsProp (IsPlaced e)
IsPlaced-prop e = hlevel (IsElement-prop, IsZone-prop, props)

pub IsNode-prop : (node : Node) → IsProp (IsNode node)
IsNode-prop (Leaf leaf) = hlevel (IsPlaced-prop, IsStrictlySortedBy-prop, props)
IsNode-prop (inner_node inner) = hlevel (IsZone-prop, IsStrictlySortedBy-prop, props)

Node-set : IsSet Node
Node-set = hlevel props

pub Spells-prop : (page : List ℕ) (node : Node) → IsProp (Spells page node)
Spells-prop page node = hlevel (Node-set, props)

HasLevel-prop : (node : Node) → IsProp (HasLevel node)
HasLevel-prop (Leaf leaf) = hlevel props
HasLevel-prop (inner_node inner) = hlevel props

HasCount-prop : (node : Node) → IsProp (HasCount node)
HasCount-prop (Leaf leaf) = hlevel props
HasCount-prop (inner_node inner) = hlevel props

HasFields-prop : (node : Node) → IsProp (HasFields node)
HasFields-prop (Leaf leaf) = hlevel (IsPlaced-prop, props)
HasFields-prop (inner_node inner) = hlevel (IsZone-prop, props)

pub HoldsNode-prop : (page : List ℕ) → IsProp (HoldsNode page)
HoldsNode-prop page = hlevel (Spells-prop, HasLevel-prop, HasCount-prop, HasFields-prop, props)
