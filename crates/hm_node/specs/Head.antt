-- The head of a page, which says how its places are to be read.
use Rattle.std.specs.Prelude.{ℕ, List}
use Rattle.hm_fields.specs.Fields.{get}
use Rattle.hm_node.specs.declared.head.Head.{Head}

-- the head in the first 16 bytes
abbrev pub head_in : List ℕ → Head
head_in page = record {
  kind = get page 0 1;
  level = get page 1 1;
  count = get page 2 2;
  mirror = get page 8 8;
}
