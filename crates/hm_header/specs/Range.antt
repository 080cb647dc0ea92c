-- The ranges of the fields of a header.
use Rattle.std.specs.Prelude.{◌≡◌, ◌≢◌, ℕ, ◌*◌, ◌%◌, ◌^◌, ◌<◌, ◌≤◌, List, length, take, slice_index}
use Rattle.std.specs.List.{AllByRecursion}
use Rattle.hm_types.specs.declared.limits.TheConstants.{BIGBLOCK_BYTES, GREATEST_ID, LEAST_BIGBLOCKS, MOST_BIGBLOCKS, MOST_GROUP_PAGES, PAGE_BYTES, UNDO_ENTRIES}
use Rattle.hm_types.specs.Layout.{IsPool, block_of}
use Rattle.hm_types.specs.Offset.{zone_of, volume_of, byte_of}
use Rattle.hm_types.specs.declared.zone.TheConstants.{TREE_ZONE}
use Rattle.hm_header.specs.declared.header.Header.{Header}
use Rattle.hm_header.specs.declared.header.TheConstants.{VERSION}

-- a number of big-blocks that a volume may have
abbrev pub IsSize : ℕ → Type 0
IsSize bigblocks = (LEAST_BIGBLOCKS ≤ bigblocks) × (bigblocks ≤ MOST_BIGBLOCKS)

-- a disk of so many bytes has room for these big-blocks
abbrev pub HasRoom : ℕ → ℕ → Type 0
HasRoom size bigblocks = bigblocks * BIGBLOCK_BYTES ≤ size

-- an id that a call may have drawn
abbrev pub IsId : ℕ → Type 0
IsId id = (1 ≤ id) × (id ≤ GREATEST_ID)

-- the raw offset of a root node: a page of the B-tree's zone, in the pool
pub record IsRoot (bigblocks raw : ℕ) : Type 0 where
  pub zone : zone_of raw ≡ TREE_ZONE
  pub volume : volume_of raw ≡ 0
  pub pool : IsPool bigblocks (block_of (byte_of raw))
  pub page : byte_of raw % PAGE_BYTES ≡ 0

-- an entry of the UNDO log
abbrev pub IsEntry : ℕ → Type 0
IsEntry entry = entry < UNDO_ENTRIES

-- a number of UNDO entries that one flush may write
abbrev pub IsCount : ℕ → Type 0
IsCount count = count ≤ MOST_GROUP_PAGES

-- an append big-block: one of the pool, and none of those before it
abbrev pub IsAppend : ℕ → List ℕ → ℕ → Type 0
IsAppend bigblocks before block = IsPool bigblocks block × AllByRecursion (λ other. block ≢ other) before

-- so is the one that stands after k others
abbrev pub IsAppendAt : Header → ℕ → Type 0
IsAppendAt header k = IsAppend header.bigblocks (take k header.append) (slice_index header.append k)

-- a header whose fields are in range
pub record IsHeader (header : Header) : Type 0 where
  pub version : header.version ≡ VERSION
  pub bigblocks : IsSize header.bigblocks
  pub generation : header.generation < 2 ^ 64
  pub last : IsId header.last.0
  pub root : IsRoot header.bigblocks header.root
  pub undo_first : IsEntry header.undo_first
  pub undo_count : IsCount header.undo_count
  pub undo_next : IsEntry header.undo_next
  pub four : length header.append ≡ 4
  pub append : (k : ℕ) → k < 4 → IsAppendAt header k
