-- What is known of the pages that came already, while a tree is loaded.
use Rattle.std.specs.Prelude.{◌≡◌, ◌≢◌, ◌⊎◌, ℕ, ◌+◌, ◌<◌, ◌≤◌, List, None, Some, slice_get}
use Rattle.std.specs.List.{AllByRecursion}
use Rattle.hm_types.specs.Layout.{start_of}
use Rattle.hm_types.specs.Offset.{byte_of, zone_of}
use Rattle.hm_types.specs.declared.limits.TheConstants.{PAGE_BYTES}
use Rattle.hm_types.specs.declared.zone.TheConstants.{TREE_ZONE}
use Rattle.hm_fields.specs.Pages.{PageMap}
use Rattle.hm_key.specs.Key.{key_of, IsBefore}
use Rattle.hm_image.specs.Image.{pages_of}
use Rattle.hm_image.specs.Sound.{HasLayer1}
use Rattle.hm_pages.specs.Store.{Store}
use Rattle.hm_node.specs.Node.{level_of, node_in}
use Rattle.hm_header.specs.declared.header.Header.{Header}
use Rattle.hm_node.specs.declared.inner.Inner.{Inner}
use Rattle.hm_node.specs.declared.node.Node.{Node}
use Rattle.hm_search.specs.Descent.{levels_below}
use Rattle.hm_search.specs.Tree.{children_of}
use Rattle.hm_search.specs.declared.subtree.Subtree.{Subtree}
use Rattle.hm_search.proofs.ReachLemmas.{first_key}
use Rattle.hm_load.specs.Damage.{IsWhole, elements_at, volume_page}
use Rattle.hm_load.specs.Freemap.{HoldsEntries, layer2_bytes, layer2_pages}
use Rattle.hm_load.specs.Payload.{HasPayload}

-- a page is the one of the volume that stands at an offset
pub record IsRead (image : List ℕ) (bigblocks at : ℕ) (page : List ℕ) : Type 0 where
  pub within : byte_of at + PAGE_BYTES ≤ start_of bigblocks
  pub same : page ≡ volume_page image bigblocks at

-- so is each page of a map
abbrev pub AreRead : List ℕ → ℕ → PageMap → Type 0
AreRead image bigblocks map = (at : ℕ) (page : List ℕ) → map at ≡ Some page → IsRead image bigblocks at page

-- of the first pages of layer 2, so many of them, each keeps what is asked of it; and the pages of a map are those of the volume
pub record HasFirstPages (image : List ℕ) (header : Header) (count : ℕ) (map : PageMap) : Type 0 where
  pub right : (n : ℕ) → n < count → HoldsEntries header n (layer2_bytes image n)
  pub pages : AreRead image header.bigblocks map

-- the pages of a map are those of the volume, and each payload from a place on may be one
pub record IsReadBelow (image : List ℕ) (bigblocks : ℕ) (s : Subtree) (map : PageMap) : Type 0 where
  pub pages : AreRead image bigblocks map
  pub payloads : AllByRecursion (HasPayload image bigblocks) (elements_at map s)

-- the same from each of the first children of a node on
pub record AreReadFirst (image : List ℕ) (bigblocks : ℕ) (inner : Inner) (count : ℕ) (map : PageMap) : Type 0 where
  pub pages : AreRead image bigblocks map
  pub payloads : (i : ℕ) (child : Subtree) → i < count → slice_get (children_of inner) i ≡ Some child
      → AllByRecursion (HasPayload image bigblocks) (elements_at map child)

-- a node stands above a place, or before it
abbrev pub IsAboveOrBefore : Subtree → Node → Type 0
IsAboveOrBefore s node = (levels_below s ≤ level_of node) ⊎ ((s.parent ≢ None) × IsBefore (first_key node) (key_of s.left))

-- so does each node that came
abbrev pub IsApart : Subtree → PageMap → Type 0
IsApart s map = (at : ℕ) (page : List ℕ) → map at ≡ Some page → zone_of at ≡ TREE_ZONE → IsAboveOrBefore s (node_in page)

-- both layers were read, and no damage is in them
pub record HasFreemap (image : List ℕ) (header : Header) (map : PageMap) : Type 0 where
  pub layer1 : HasLayer1 image header.bigblocks
  pub layer2 : HasFirstPages image header (layer2_pages header.bigblocks) map

-- each page of a store is the one of the image, and there is no damage
pub record HoldsImage (image : List ℕ) (header : Header) (s : Store) : Type 0 where
  pub pages : (at : ℕ) (page : List ℕ) → s.current at ≡ Some page → pages_of image at ≡ Some page
  pub whole : IsWhole image header
