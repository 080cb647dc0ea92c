-- Inodes, and the one spelling of each: 32 bytes. A number stands with its lowest byte first.
use Rattle.std.specs.Prelude.{◌≡◌, ◌≢◌, ℕ, ◌^◌, ◌<◌, ◌≤◌, List, [], ◌∷◌, ◌++◌, replicate}
use Rattle.byteorder.specs.Endian.{little_bytes}
use Rattle.hm_types.specs.declared.limits.TheConstants.{MOST_TARGET_BYTES}
use Rattle.hm_records.specs.declared.inode.Inode.{Inode}
use Rattle.hm_records.specs.declared.kind.TheConstants.{DIRECTORY, SOFTLINK, PFS_LINK}

-- a known kind, and a size that an object of this kind may have. A file may have any
pub record IsSizeOf (kind size : ℕ) : Type 0 where
  pub known : (DIRECTORY ≤ kind) × (kind ≤ PFS_LINK)
  pub directory : kind ≡ DIRECTORY → size ≡ 0
  pub softlink : kind ≡ SOFTLINK → (1 ≤ size) × (size ≤ MOST_TARGET_BYTES)
  pub pfs_link : kind ≡ PFS_LINK → size ≡ 0

-- an inode whose fields are in range. Any object may have any number of links
pub record IsInode (inode : Inode) : Type 0 where
  pub sized : IsSizeOf inode.kind inode.size
  pub size : inode.size < 2 ^ 64
  pub links : inode.links < 2 ^ 32
  pub pfs : inode.pfs.0 < 2 ^ 16
  pub no_pfs : inode.kind ≢ PFS_LINK → inode.pfs.0 ≡ 0

-- the bytes of an inode, each field with its place
unfoldable pub inode_bytes : Inode → List ℕ
inode_bytes inode =
    (inode.kind ∷ [])  -- 0
    ++ replicate 7 0  -- 1
    ++ little_bytes 8 inode.size  -- 8
    ++ little_bytes 4 inode.links  -- 16
    ++ little_bytes 2 inode.pfs.0  -- 20
    ++ replicate 10 0  -- 22
