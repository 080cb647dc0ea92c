-- The bytes of a volume as it is made, but for the gates of its header slots.
use Rattle.std.specs.Prelude.{◌≡◌, ℕ, ◌+◌, List, ◌++◌, slice_range}
use Rattle.hm_types.specs.Layout.{first_pool, start_of}
use Rattle.hm_types.specs.declared.limits.TheConstants.{BIGBLOCK_BYTES, PAGE_BYTES}
use Rattle.hm_header.specs.Layout.{body_of}
use Rattle.hm_header.specs.declared.header.TheConstants.{BODY_BYTES}
use Rattle.hm_image.specs.Fresh.{fresh_header, fresh_record, fresh_root, root_inode}
use Rattle.hm_node.specs.Node.{Spells}
use Rattle.hm_records.specs.Inode.{inode_bytes}
use Rattle.hm_records.specs.PfsRecord.{pfs_bytes}
use Rattle.hm_newfs.specs.Layers.{HasLayer}
use Rattle.hm_newfs.specs.declared.layer.Layer.TheVariants.{First, Second}
use Rattle.hm_newfs.specs.declared.tree.TheConstants.{PAYLOAD_BYTES}

-- the first slot has the body of the header
abbrev pub HasBody : ℕ → List ℕ → Type 0
HasBody bigblocks bytes = slice_range bytes 0 BODY_BYTES ≡ body_of (fresh_header bigblocks)

-- from the first byte of the root node to the last one of the payloads, which are in the next big-block
abbrev pub tree_bytes : ℕ
tree_bytes = BIGBLOCK_BYTES + PAYLOAD_BYTES

-- the pool begins with a big-block that has the root node, and one that has both payloads
pub record HasFreshTree (bigblocks : ℕ) (bytes : List ℕ) : Type 0 where
  pub root : Spells (slice_range bytes (start_of (first_pool bigblocks)) (start_of (first_pool bigblocks) + PAGE_BYTES))
      (fresh_root bigblocks)
  pub payloads : slice_range bytes (start_of (first_pool bigblocks + 1)) (start_of (first_pool bigblocks + 1) + PAYLOAD_BYTES)
      ≡ inode_bytes root_inode ++ pfs_bytes fresh_record

-- all of it
pub record HasContents (bigblocks : ℕ) (bytes : List ℕ) : Type 0 where
  pub body : HasBody bigblocks bytes
  pub layer1 : HasLayer bigblocks First bytes
  pub layer2 : HasLayer bigblocks Second bytes
  pub tree : HasFreshTree bigblocks bytes
