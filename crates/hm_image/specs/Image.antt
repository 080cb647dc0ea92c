-- What the bytes of a volume hold: its pages, the elements of its tree, and what that tree refers to.
-- An image is the list of these bytes.
use Rattle.std.specs.Prelude.{ℕ, zero, suc, ◌+◌, List, [], ◌∷◌, ◌++◌, Some, None, if◌then◌else◌, nat_le, length, map, slice_range}
use Rattle.std.specs.List.{flat_map}
use Rattle.hm_types.specs.Elements.{FullElement}
use Rattle.hm_types.specs.Offset.{byte_of}
use Rattle.hm_types.specs.References.{Reference}
use Rattle.hm_types.specs.declared.limits.TheConstants.{PAGE_BYTES}
use Rattle.hm_fields.specs.Pages.{PageMap}
use Rattle.hm_key.specs.Elements.{element_key}
use Rattle.hm_key.specs.declared.element.Element.{Element}
use Rattle.hm_node.specs.declared.inner.Child.{Child}
use Rattle.hm_node.specs.declared.node.Node.{Node}
use Rattle.hm_node.specs.declared.node.Node.TheVariants.{Leaf, Inner as inner_node}
use Rattle.hm_search.specs.Tree.{elements_of, height_of, node_at}

-- so many bytes of the image, from the byte that an offset names
abbrev pub bytes_at : List ℕ → ℕ → ℕ → List ℕ
bytes_at image at len = slice_range image (byte_of at) (byte_of at + len)

-- the page at an offset, of those that end within the image
abbrev pub pages_of : List ℕ → PageMap
pages_of image at = if nat_le (byte_of at + PAGE_BYTES) (length image) then Some (bytes_at image at PAGE_BYTES) else None

-- an element with the bytes of its payload
abbrev pub full_of : List ℕ → Element → FullElement
full_of image e = record {
  key = element_key e;
  delete = e.base.delete;
  obj_type = e.base.obj_type;
  bytes = bytes_at image e.payload e.len;
}

-- the elements of the tree from a root on, with their payloads, in the leaves from left to right
abbrev pub elements_from : List ℕ → ℕ → List FullElement
elements_from image root = map (full_of image) (elements_of (pages_of image) root)

-- a reference to a node's page
abbrev pub to_node : ℕ → Reference
to_node at = record { at = at; len = PAGE_BYTES }

-- a reference to an element's payload
abbrev pub to_payload : Element → Reference
to_payload e = record { at = e.payload; len = e.len }

-- the pages of all nodes below a node
abbrev pub nodes_below : PageMap → ℕ → Node → List Reference
nodes_below pages height (Leaf leaf) = []
nodes_below pages zero (inner_node inner) = []
nodes_below pages (suc height) (inner_node inner) =
    flat_map (λ (c : Child). to_node c.child ∷ nodes_below pages height (node_at pages c.child)) inner.places.items

-- what the tree from a root on refers to: its nodes, and the payloads of its elements, each as often as an element
-- refers to it
abbrev pub references_from : PageMap → ℕ → List Reference
references_from pages root =
    (to_node root ∷ nodes_below pages (height_of (node_at pages root)) (node_at pages root))
    ++ map to_payload (elements_of pages root)
