-- What a node keeps that is written, also over pages that are not told.
use Rattle.std.specs.Prelude.{◌≡◌, Option, IfSome}
use Rattle.hm_node.specs.Inner.{IsBound}
use Rattle.hm_node.specs.Node.{HasLevel, HasCount, HasFields, level_of}
use Rattle.hm_node.specs.declared.node.Node.{Node}
use Rattle.hm_btree.specs.declared.upper.Upper.{Upper}

-- A node of a kind, with a level, a count and fields in range. Its order and its `mirror` are not in it.
pub record IsShaped (node : Node) : Type 0 where
  pub level : HasLevel node
  pub count : HasCount node
  pub fields : HasFields node

-- an upper part is such a node, and begins at a boundary
pub record IsShapedUpper (upper : Upper) : Type 0 where
  pub node : IsShaped upper.node
  pub left : IsBound upper.left

-- a node is one, and its upper part where it has one
pub record AreShaped (node : Node) (upper : Option Upper) : Type 0 where
  pub shape : IsShaped node
  pub above : IfSome upper IsShapedUpper

-- a node is one, of the level of the node that it was
pub record IsShapedLike (before after : Node) : Type 0 where
  pub shape : IsShaped after
  pub level : level_of after ≡ level_of before
