-- What pages in memory are kept.
use Rattle.std.specs.Prelude.{ℕ, List, Option, option_map, Box}
use Rattle.std.specs.declared.alloc.Global.{Global}
use Rattle.std.specs.Ordering.{nat_cmp}
use Rattle.std.specs.BTreeMap as tree
use Rattle.hm_fields.specs.declared.mem_pages.MemPages.{MemPages}

-- the page at an offset, if it is kept
abbrev pub kept : MemPages → ℕ → Option (List ℕ)
kept m at = option_map (λ (page : Box (List ℕ) Global). page.value) (tree.get nat_cmp m.pages at)
