-- What a space of nodes in memory keeps.
use Rattle.std.specs.Prelude.{ℕ, List, Option, option_map, IfSome, Box, if◌then◌else◌, nat_eq}
use Rattle.std.specs.declared.alloc.Global.{Global}
use Rattle.std.specs.Ordering.{nat_cmp}
use Rattle.std.specs.BTreeMap.{BTreeMap}
use Rattle.std.specs.BTreeMap as tree
use Rattle.hm_types.specs.declared.zone.TheConstants.{TREE_ZONE}
use Rattle.hm_node.specs.Shape.{HoldsNode}

-- pages by their offsets
abbrev pub HeldPages : Type 0
HeldPages = BTreeMap ℕ (Box (List ℕ) Global)

-- each of them holds a node
abbrev pub AllHoldNodes : HeldPages → Type 0
AllHoldNodes pages = (at : ℕ) → IfSome (tree.get nat_cmp pages at) (λ (page : Box (List ℕ) Global). HoldsNode page.value)

-- the page at an offset, if it is kept
abbrev pub page_held : HeldPages → ℕ → Option (List ℕ)
page_held pages at = option_map (λ (page : Box (List ℕ) Global). page.value) (tree.get nat_cmp pages at)

-- the room of a zone
abbrev pub room_of : ℕ → ℕ → ℕ
room_of room zone = if nat_eq zone TREE_ZONE then room else 0
