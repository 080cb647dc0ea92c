-- How an entry of the UNDO log is laid out. A number stands with its lowest byte first.
use Rattle.std.specs.Prelude.{◌≡◌, ◌⊎◌, ℕ, ◌%◌, ◌^◌, ◌<◌, ◌≤◌, List, ◌++◌, codes, length, take, slice_range}
use Rattle.byteorder.specs.Endian.{little_bytes}
use Rattle.hm_types.specs.declared.limits.TheConstants.{PAGE_BYTES}
use Rattle.hm_types.specs.declared.zone.TheConstants.{FREEMAP_ZONE, TREE_ZONE}
use Rattle.hm_types.specs.Layout.{IsLayer2, IsPool, block_of}
use Rattle.hm_types.specs.Offset.{byte_of, volume_of, zone_of}
use Rattle.hm_fields.specs.Fields.{get}
use Rattle.hm_header.specs.Layout.{zeros}

-- what an entry begins with
abbrev pub entry_signature : List ℕ
entry_signature = codes "HMRUNDO1"

-- the first 32 bytes of an entry, each field with its place: the raw offset of a page, and the generation of
-- the header that will name the entry
unfoldable pub head_of : ℕ → ℕ → List ℕ
head_of at generation =
    entry_signature  -- 0
    ++ little_bytes 8 at  -- 8
    ++ little_bytes 8 generation  -- 16
    ++ zeros 8  -- 24

-- an entry: its head, and the bytes of the page, from 32 on
unfoldable pub undo_entry_of : ℕ → ℕ → List ℕ → List ℕ
undo_entry_of at generation page = head_of at generation ++ page

-- The raw offset of a page that an entry may name: a multiple of 4,096, in the B-tree's zone, or in that of the
-- freemap, and then in a big-block that is one of layer 2 on some volume.
pub record IsUndoPage (at : ℕ) : Type 0 where
  pub volume : volume_of at ≡ 0
  pub page : byte_of at % PAGE_BYTES ≡ 0
  pub zone : (zone_of at ≡ TREE_ZONE)
      ⊎ ((zone_of at ≡ FREEMAP_ZONE) × (2 ≤ block_of (byte_of at)) × (block_of (byte_of at) < 4))

-- So is one on a volume of so many big-blocks: a page of the B-tree lies in the pool, and one of the freemap in
-- layer 2.
pub record IsUndoPageOf (bigblocks at : ℕ) : Type 0 where
  pub volume : volume_of at ≡ 0
  pub page : byte_of at % PAGE_BYTES ≡ 0
  pub zone : ((zone_of at ≡ TREE_ZONE) × IsPool bigblocks (block_of (byte_of at)))
      ⊎ ((zone_of at ≡ FREEMAP_ZONE) × IsLayer2 bigblocks (block_of (byte_of at)))

-- these bytes are the entry of this page, for a header of this generation
pub record SpellsUndoEntry (bytes : List ℕ) (at generation : ℕ) (page : List ℕ) : Type 0 where
  pub offset : IsUndoPage at
  pub fits : generation < 2 ^ 64
  pub sized : length page ≡ PAGE_BYTES
  pub spelled : bytes ≡ undo_entry_of at generation page

-- A part of an entry is broken: what it begins with, the offset at byte 8, or the zeros from byte 24 on. Any
-- generation may stand at byte 16, and any page from byte 32 on.
abbrev pub IsBrokenEntry : List ℕ → Type 0
IsBrokenEntry bytes = ¬ (take 8 bytes ≡ entry_signature) ⊎ ¬ IsUndoPage (get bytes 8 8) ⊎ ¬ (slice_range bytes 24 32 ≡ zeros 8)
