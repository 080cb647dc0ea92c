-- What a store of pages has once a volume is loaded.
use Rattle.std.specs.Prelude.{◌≡◌, ◌⊎◌, ℕ, ◌+◌, ◌*◌, ◌==◌, ◌<◌, ◌≤◌, List, [], IsSome, None, Some, if◌then◌else◌}
use Rattle.hm_types.specs.Offset.{zone_of}
use Rattle.hm_types.specs.declared.zone.TheConstants.{TREE_ZONE}
use Rattle.hm_btree.specs.Tree.{IsTreeSpace}
use Rattle.hm_fields.specs.Pages.{PageMap}
use Rattle.hm_freemap.specs.Places.{IsPageOf, HasLayer2, entries_per_page}
use Rattle.hm_freemap.specs.Stand.{entry_page}
use Rattle.hm_header.specs.declared.header.Header.{Header}
use Rattle.hm_pages.specs.Maps.{set_at}
use Rattle.hm_pages.specs.Sets.{no_set}
use Rattle.hm_pages.specs.Store.{Store, layer2}
use Rattle.hm_load.specs.Freemap.{HoldsEntries, HoldsEntryOf, HoldsLayer2, layer2_page, piece_page}

-- the three maps are one, no call is open, and nothing was changed or is frozen
pub record IsPlain (s : Store) : Type 0 where
  pub frozen : s.frozen ≡ s.committed
  pub current : s.current ≡ s.committed
  pub begin : s.begin ≡ None
  pub call : s.call ≡ no_set
  pub group : s.group ≡ no_set
  pub flush : (s.frozen_group ≡ []) × (s.boundary ≡ None)

-- a page came into a store that had none there
pub record Puts (at : ℕ) (page : List ℕ) (old new : Store) : Type 0 where
  pub plain : IsPlain new
  pub put : new.current ≡ set_at at (Some page) old.current

-- the page of layer 2 of this number has entries that may be, and came into a store where one of them is of the volume
pub record LoadsPage (header : Header) (number : ℕ) (page : List ℕ) (old new : Store) : Type 0 where
  pub plain : IsPlain new
  pub holds : HoldsEntries header number page
  pub put : number * entries_per_page < header.bigblocks → new.current ≡ set_at (layer2_page number) (Some page) old.current
  pub past : header.bigblocks ≤ number * entries_per_page → new.current ≡ old.current

-- so did so many pages of a piece that begins with the page of this number
pub record LoadsPages (header : Header) (number count : ℕ) (bytes : List ℕ) (old new : Store) : Type 0 where
  pub plain : IsPlain new
  pub layer : HoldsLayer2 header (number + count) new.current
  pub holds : (k : ℕ) → k < count → HoldsEntries header (number + k) (piece_page bytes k)
  pub pages : (at : ℕ) (page : List ℕ) → new.current at ≡ Some page
      → (old.current at ≡ Some page) ⊎ ((k : ℕ) × (k < count) × (at ≡ layer2_page (number + k)) × (page ≡ piece_page bytes k))

-- the pages of a map in the zone of the tree
abbrev pub tree_part : PageMap → PageMap
tree_part map at = if zone_of at == TREE_ZONE then map at else None

-- A store has the volume of this header: its tree, and the pages of layer 2 with the entries of its big-blocks, each of
-- which may be that of its big-block. No other page is there.
pub record IsLoaded (header : Header) (s : Store) : Type 0 where
  pub plain : IsPlain s
  pub tree : IsTreeSpace (tree_part s.current) header.root
  pub layer2 : HasLayer2 header.bigblocks (layer2 s)
  pub entries : (block : ℕ) → block < header.bigblocks → HoldsEntryOf header block (entry_page s.current block)
  pub only : (at : ℕ) → IsSome (s.current at) → (zone_of at ≡ TREE_ZONE) ⊎ IsPageOf header.bigblocks at
