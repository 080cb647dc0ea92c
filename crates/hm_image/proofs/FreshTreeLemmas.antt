-- The tree of a fresh volume: one leaf with two elements.
use Rattle.std.proofs.Common.{◌≡◌, inl, inr, ℕ, ◌+◌, ◌^◌, ◌<◌, List, ◌∷◌, ◌++◌, Option, Some, refl, sym, ap, subst, ◌∙◌, arith, map}
use Rattle.std.specs.Prelude.{IsSome}
use Rattle.std.specs.List.Sorted.{IsStrictlySortedBy}
use Rattle.hm_types.specs.Layout.{first_pool, start_of}
use Rattle.hm_types.specs.Offset.{IsOffset, raw_of}
use Rattle.hm_types.specs.declared.zone.TheConstants.{META_ZONE}
use Rattle.hm_fields.specs.Pages.{PageMap, page_in}
use Rattle.hm_header.specs.Range.{IsSize}
use Rattle.hm_key.specs.Element.{IsElement}
use Rattle.hm_key.specs.Elements.{element_cmp, element_key}
use Rattle.hm_key.specs.declared.element.Element.{Element}
use Rattle.hm_node.specs.Leaf.{IsPlaced, IsUpTo}
use Rattle.hm_node.specs.Node.{IsNode, Spells, node_in}
use Rattle.hm_node.specs.declared.node.Node.{Node}
use Rattle.hm_node.specs.declared.node.Node.TheVariants.{Leaf}
use Rattle.hm_node.specs.declared.leaf.Leaf.{Leaf as TheLeaf}
use Rattle.hm_search.specs.Place.{Fits, IsInside}
use Rattle.hm_search.specs.Tree.{HasChildren, IsSoundTree, IsTreeWith, elements_in, elements_of, height_of, node_at, root_place}
use Rattle.hm_image.specs.Fresh.{IsFresh, fresh_elements, fresh_root, inode_element, record_element, root_at}
use Rattle.hm_image.specs.Image.{nodes_below, pages_of, references_from, to_node, to_payload}
use Rattle.hm_image.proofs.ListLemmas.{all_two}
use Rattle.hm_image.proofs.OffsetLemmas.{pool_is, volume_is, zone_is}

-- ---- a tree of one leaf

-- the node that a page at an offset spells
pub node_is : (pages : PageMap) (at : ℕ) (page : List ℕ) (node : Node) → pages at ≡ Some page → Spells page node
    → node_at pages at ≡ node
node_is pages at page node here spelled = ap (λ (o : Option (List ℕ)). node_in (page_in o)) here ∙ spelled.value

-- a sound leaf at a root is a sound tree
pub leaf_tree : (pages : PageMap) (root : ℕ) (page : List ℕ) (leaf : TheLeaf) → pages root ≡ Some page
    → Spells page (Leaf leaf) → IsNode (Leaf leaf) → Fits (root_place root) (Leaf leaf) → IsSoundTree pages root
leaf_tree pages root page leaf here spelled sound fits =
    let node = node_is pages root page (Leaf leaf) here spelled in
    let S : Option (List ℕ) → Type 0 = λ o. Spells (page_in o) (node_in (page_in o)) in
    let P : Node → Type 0 = λ n. IsTreeWith (HasChildren pages (height_of n)) (height_of n) (root_place root) n in
    let tree : P (Leaf leaf) = record { sound = sound; level = refl; fits = fits; below = tt } in
    record {
      there = subst IsSome (sym here) refl;
      spelled = subst S (sym here) (subst (Spells page) (sym spelled.value) spelled);
      tree = subst P (sym node) tree;
    }

-- its elements, and what it refers to
pub leaf_elements : (pages : PageMap) (root : ℕ) (leaf : TheLeaf) → node_at pages root ≡ Leaf leaf
    → elements_of pages root ≡ leaf.places.items
leaf_elements pages root leaf node = ap (λ (n : Node). elements_in pages (height_of n) n) node

pub leaf_references : (pages : PageMap) (root : ℕ) (leaf : TheLeaf) → node_at pages root ≡ Leaf leaf
    → references_from pages root ≡ to_node root ∷ map to_payload leaf.places.items
leaf_references pages root leaf node =
    ap (λ (n : Node). (to_node root ∷ nodes_below pages (height_of n) n) ++ map to_payload (elements_in pages (height_of n) n)) node

-- ---- the leaf of a fresh volume

meta_offset : (byte : ℕ) → byte < 2 ^ 52 → IsOffset (raw_of META_ZONE byte)
meta_offset byte few =
    let zone = zone_is META_ZONE byte few in
    (inr (inl (omega arith, omega arith)), volume_is META_ZONE byte few)

inode_is : (bigblocks : ℕ) → IsElement (inode_element bigblocks)
inode_is bigblocks = record {
  made = omega arith;
  closed = inl refl;
  obj_type = (omega arith, omega arith);
  btype = refl;
  fits = record {
    known = inl refl;
    inode_part = λ is. refl;
    other_part = λ is. absurd (is refl);
    inode = λ is. refl;
    target = λ is. absurd (omega arith);
    file_bytes = λ is. absurd (omega arith);
    pfs_object = λ is. refl;
    snapshot_object = λ is. refl;
    pfs_number = λ is. refl;
  };
}

record_is : (bigblocks : ℕ) → IsElement (record_element bigblocks)
record_is bigblocks = record {
  made = omega arith;
  closed = inl refl;
  obj_type = (omega arith, omega arith);
  btype = refl;
  fits = record {
    known = inr (inr (inr (inr (inl refl))));
    inode_part = λ is. absurd (omega arith);
    other_part = λ is. refl;
    inode = λ is. refl;
    target = λ is. refl;
    file_bytes = λ is. absurd (omega arith);
    pfs_object = λ is. refl;
    snapshot_object = λ is. refl;
    pfs_number = λ is. refl;
  };
}

rising : (bigblocks : ℕ) → IsStrictlySortedBy element_cmp (fresh_elements bigblocks)
unfolding IsStrictlySortedBy
rising bigblocks = ((refl, tt), (tt, tt))

fresh_node_is : (bigblocks : ℕ) → IsSize bigblocks → IsNode (fresh_root bigblocks)
fresh_node_is bigblocks size =
    let pool = pool_is bigblocks size in
    record {
      level = tt;
      count = omega arith;
      order = rising bigblocks;
      fields = all_two IsPlaced (inode_element bigblocks) (record_element bigblocks)
          (record { element = inode_is bigblocks; payload = meta_offset (start_of (first_pool bigblocks + 1)) (omega arith) })
          (record { element = record_is bigblocks; payload = meta_offset (start_of (first_pool bigblocks + 1) + 32) (omega arith) });
      mirror = all_two (IsUpTo 1) (inode_element bigblocks) (record_element bigblocks)
          (record { create = omega arith; delete = omega arith }) (record { create = omega arith; delete = omega arith });
    }

fresh_node_fits : (bigblocks : ℕ) → Fits (root_place (root_at bigblocks)) (fresh_root bigblocks)
fresh_node_fits bigblocks =
    let P : Element → Type 0 = λ e. IsInside (root_place (root_at bigblocks)).left (root_place (root_at bigblocks)).right (element_key e) in
    record {
      level = tt;
      count = tt;
      bounds = all_two P (inode_element bigblocks) (record_element bigblocks)
          (record { from = λ less. absurd (cc); before = refl })
          (record { from = λ less. absurd (cc); before = refl });
      mirror = tt;
    }

-- a fresh image has this node at its root
pub fresh_node : (bigblocks : ℕ) (image : List ℕ) → IsFresh bigblocks image → node_at (pages_of image) (root_at bigblocks) ≡ fresh_root bigblocks
fresh_node bigblocks image fresh = node_is (pages_of image) (root_at bigblocks) fresh.page (fresh_root bigblocks) fresh.root fresh.spelled

pub fresh_tree : (bigblocks : ℕ) (image : List ℕ) → IsSize bigblocks → IsFresh bigblocks image → IsSoundTree (pages_of image) (root_at bigblocks)
fresh_tree bigblocks image size fresh =
    leaf_tree (pages_of image) (root_at bigblocks) fresh.page _ fresh.root fresh.spelled (fresh_node_is bigblocks size) (fresh_node_fits bigblocks)
