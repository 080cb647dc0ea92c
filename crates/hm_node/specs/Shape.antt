-- What a search needs of a page of a tree to be safe, and what each edit keeps.
use Rattle.std.specs.Prelude.{ℕ, List}
use Rattle.hm_node.specs.Node.{node_in, HasLevel, HasCount, HasFields, Spells}

-- A page holds a node: its kind, its level, its count and each of its fields are in range. That it keeps the order and
-- its `mirror` is not said: over pages that are not told no edit could promise that, and where they are told it follows
-- from the tree.
pub record HoldsNode (page : List ℕ) : Type 0 where
  pub spelled : Spells page (node_in page)
  pub level : HasLevel (node_in page)
  pub count : HasCount (node_in page)
  pub fields : HasFields (node_in page)
