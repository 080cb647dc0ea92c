-- The bytes of a volume as it is made: the root directory, in one pseudo file system, whose record keeps every id.
use Rattle.std.specs.Prelude.{◌≡◌, ℕ, ◌+◌, ◌*◌, ◌-◌, ◌-ℤ◌, ◌<◌, ◌≤◌, true, List, [], ◌∷◌, ◌++◌, Some, if◌then◌else◌, nat_eq, nat_lt, pos, length}
use Rattle.hm_types.specs.Layout.{blocks_per_layer2, first_pool, first_undo, layer2_blocks, start_of}
use Rattle.hm_types.specs.Offset.{raw_of}
use Rattle.hm_types.specs.declared.limits.TheConstants.{BIGBLOCK_BYTES, PAGE_BYTES}
use Rattle.hm_types.specs.declared.zone.TheConstants.{VOLUME_ZONE, UNDO_ZONE, FREEMAP_ZONE, TREE_ZONE, META_ZONE, LARGE_ZONE, SMALL_ZONE, UNAVAILABLE_ZONE}
use Rattle.hm_freemap.specs.Fresh.{reserved_entry}
use Rattle.hm_freemap.specs.declared.entry.Entry.{Entry}
use Rattle.hm_freemap.specs.declared.entry.TheConstants.{UNUSED}
use Rattle.hm_header.specs.Layout.{body_of}
use Rattle.hm_header.specs.Slots.{IsClosed}
use Rattle.hm_header.specs.declared.header.Header.{Header}
use Rattle.hm_header.specs.declared.header.TheConstants.{GATE_OPEN, VERSION}
use Rattle.hm_key.specs.declared.base.Base.{Base}
use Rattle.hm_key.specs.declared.base.TheConstants.{ELEMENT}
use Rattle.hm_key.specs.declared.element.Element.{Element}
use Rattle.hm_key.specs.declared.rec_type.TheConstants.{INODE, PFS_RECORD, INODE_PART, OTHER_PART}
use Rattle.hm_types.specs.Intervals.{open_end}
use Rattle.hm_node.specs.Node.{Spells}
use Rattle.hm_node.specs.declared.node.Node.{Node}
use Rattle.hm_node.specs.declared.node.Node.TheVariants.{Leaf}
use Rattle.hm_records.specs.Inode.{inode_bytes}
use Rattle.hm_records.specs.PfsRecord.{pfs_bytes}
use Rattle.hm_records.specs.declared.inode.Inode.{Inode}
use Rattle.hm_records.specs.declared.kind.TheConstants.{DIRECTORY}
use Rattle.hm_records.specs.declared.pfs_record.PfsRecord.{PfsRecord}
use Rattle.hm_header.specs.OnDisk.{first_slot, second_slot}
use Rattle.hm_image.specs.Image.{bytes_at, pages_of}
use Rattle.hm_image.specs.Sound.{HasEntry, HasLayer1}

-- where the root node, the inode of the root directory and the record stand: the first big-block of the pool is of
-- nodes, and the second of payloads that are no file bytes
abbrev pub root_at : ℕ → ℕ
root_at bigblocks = raw_of TREE_ZONE (start_of (first_pool bigblocks))

abbrev pub inode_at : ℕ → ℕ
inode_at bigblocks = raw_of META_ZONE (start_of (first_pool bigblocks + 1))

abbrev pub record_at : ℕ → ℕ
record_at bigblocks = raw_of META_ZONE (start_of (first_pool bigblocks + 1) + 32)

-- its header: the id 1 is drawn, and nothing is to be recovered
abbrev pub fresh_header : ℕ → Header
fresh_header bigblocks = record {
  version = VERSION;
  bigblocks = bigblocks;
  generation = 1;
  last = record { 0 = 1 };
  root = root_at bigblocks;
  undo_first = 0;
  undo_count = 0;
  undo_next = 0;
  append = first_pool bigblocks ∷ (first_pool bigblocks + 1) ∷ (first_pool bigblocks + 2)
      ∷ (first_pool bigblocks + 3) ∷ [];
}

-- an entry of a big-block that a zone has filled so far, in which so much is live
abbrev pub filled_entry : ℕ → ℕ → Entry
filled_entry zone bytes =
    record { zone = zone; append_off = bytes; bytes_free = pos BIGBLOCK_BYTES -ℤ pos bytes }

-- the entry of the big-block so far from the pool's first: a node, two payloads of 32 and 48 bytes, and nothing else
abbrev pub pool_entry : ℕ → Entry
pool_entry k =
    if nat_eq k 0 then filled_entry TREE_ZONE PAGE_BYTES else
    (if nat_eq k 1 then filled_entry META_ZONE 80 else
    (if nat_eq k 2 then filled_entry LARGE_ZONE 0 else
    (if nat_eq k 3 then filled_entry SMALL_ZONE 0 else filled_entry UNUSED 0)))

-- the entry of a big-block
abbrev pub fresh_entry : ℕ → ℕ → Entry
fresh_entry bigblocks block =
    if nat_eq block 0 then reserved_entry VOLUME_ZONE else
    (if nat_lt block (first_undo bigblocks) then reserved_entry FREEMAP_ZONE else
    (if nat_lt block (first_pool bigblocks) then reserved_entry UNDO_ZONE else
    (if nat_lt block bigblocks then pool_entry (block - first_pool bigblocks) else reserved_entry UNAVAILABLE_ZONE)))

-- an element of object 1 that call 1 made, of the kind of a directory
abbrev pub fresh_base : ℕ → ℕ → Base
fresh_base rec_type part = record {
  obj = record { 0 = 1 };
  key = 0;
  create = 1;
  delete = 0;
  rec_type = rec_type;
  obj_type = 1;
  btype = ELEMENT;
  localization = part;
}

-- the elements of its tree: the inode of the root directory, and the record of PFS 0
abbrev pub inode_element : ℕ → Element
inode_element bigblocks = record { base = fresh_base INODE INODE_PART; payload = inode_at bigblocks; len = 32 }

abbrev pub record_element : ℕ → Element
record_element bigblocks = record { base = fresh_base PFS_RECORD OTHER_PART; payload = record_at bigblocks; len = 48 }

abbrev pub fresh_elements : ℕ → List Element
fresh_elements bigblocks = inode_element bigblocks ∷ record_element bigblocks ∷ []

-- its only node
abbrev pub fresh_root : ℕ → Node
fresh_root bigblocks = Leaf (record { mirror = 1; places = record { items = fresh_elements bigblocks } })

-- the inode of the root directory: one link
abbrev pub root_inode : Inode
root_inode = record { kind = DIRECTORY; size = 0; links = 1; pfs = record { 0 = 0 } }

-- the record of PFS 0: a master that keeps every id from 1 on
abbrev pub fresh_record : PfsRecord
fresh_record = record { master = true; shared = 0; sync_end = record { 0 = 0 }; retention = (1, open_end) ∷ [] }

-- the bytes of a volume of so many big-blocks as it is made
pub record IsFresh (bigblocks : ℕ) (image : List ℕ) : Type 0 where
  pub size : bigblocks * BIGBLOCK_BYTES ≤ length image
  pub first : first_slot image ≡ body_of (fresh_header bigblocks) ++ GATE_OPEN ∷ []
  pub second : IsClosed (second_slot image)
  pub layer1 : HasLayer1 image bigblocks
  pub layer2 : (block : ℕ) → block < layer2_blocks bigblocks * blocks_per_layer2
      → HasEntry image block (fresh_entry bigblocks block)
  pub page : List ℕ
  pub root : pages_of image (root_at bigblocks) ≡ Some page
  pub spelled : Spells page (fresh_root bigblocks)
  pub inode : bytes_at image (inode_at bigblocks) 32 ≡ inode_bytes root_inode
  pub pfs : bytes_at image (record_at bigblocks) 48 ≡ pfs_bytes fresh_record
