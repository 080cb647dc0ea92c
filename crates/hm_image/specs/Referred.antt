-- How often a tree refers to a node of it, and to an extent.
use Rattle.std.specs.Prelude.{ℕ, ◌&&◌, ◌||◌, Bool, nat_eq, if◌then◌else◌, List, ◌∷◌, Option, None, Some}
use Rattle.hm_types.specs.References.{Reference}
use Rattle.hm_types.specs.Space.{rounded}
use Rattle.hm_types.specs.declared.limits.TheConstants.{PAGE_BYTES}
use Rattle.hm_fields.specs.Pages.{PageMap}
use Rattle.hm_key.specs.Extents.{Extent}
use Rattle.hm_key.specs.declared.element.Element.{Element}
use Rattle.hm_search.specs.Tree.{height_of, node_at, reaches}
use Rattle.hm_image.specs.Image.{nodes_below, to_node}

-- 1 where a test passes, else 0
abbrev pub one_if : Bool → ℕ
one_if test = if test then 1 else 0

-- the references to the nodes of the tree from a root on
abbrev pub nodes_of : PageMap → ℕ → List Reference
nodes_of pages root = to_node root ∷ nodes_below pages (height_of (node_at pages root)) (node_at pages root)

-- whether a node of the tree from a root on stands in the page at an offset
abbrev pub is_node : PageMap → ℕ → ℕ → Bool
is_node pages root at = nat_eq at root || reaches pages (height_of (node_at pages root)) (node_at pages root) at

-- whether a reference begins at an offset
abbrev pub begins_at : ℕ → Reference → Bool
begins_at at r = nat_eq r.at at

-- whether a node of the tree takes the extent of so many bytes at an offset
abbrev pub is_node_extent : PageMap → ℕ → ℕ → ℕ → Bool
is_node_extent pages root at len = is_node pages root at && nat_eq (rounded len) PAGE_BYTES

-- whether an element's payload takes the extent of so many bytes at an offset
abbrev pub takes_extent : ℕ → ℕ → Element → Bool
takes_extent at len e = nat_eq e.payload at && nat_eq (rounded e.len) (rounded len)

-- the references to an extent of so many bytes, by the one that stands at its offset
abbrev pub references_of : ℕ → Option Extent → ℕ
references_of len None = 0
references_of len (Some x) = if nat_eq x.len (rounded len) then x.refs else 0
