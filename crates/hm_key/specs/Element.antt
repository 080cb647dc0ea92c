-- Which elements may stand in a leaf.
use Rattle.std.specs.Prelude.{◌≡◌, ◌≢◌, ◌⊎◌, ℕ, ◌-◌, ◌/◌, ◌%◌, ◌^◌, ◌<◌, ◌≤◌}
use Rattle.hm_types.specs.declared.limits.TheConstants.{BLOCK_BYTES}
use Rattle.hm_key.specs.declared.base.TheConstants.{ELEMENT}
use Rattle.hm_key.specs.declared.element.Element.{Element}
use Rattle.hm_key.specs.declared.rec_type.TheConstants.{INODE, FILE_BYTES, DIRECTORY_ENTRY, SOFTLINK_TARGET, PFS_RECORD, SNAPSHOT, INODE_PART, OTHER_PART}

-- the number of the pseudo file system that a localization names
abbrev pub pfs_of : ℕ → ℕ
pfs_of localization = localization / 2 ^ 16

-- the other half of a localization, which tells inodes from all else
abbrev pub part_of : ℕ → ℕ
part_of localization = localization % 2 ^ 16

-- a type that an element may have
abbrev pub IsRecType : ℕ → Type 0
IsRecType rec_type =
    (rec_type ≡ INODE) ⊎ (rec_type ≡ FILE_BYTES) ⊎ (rec_type ≡ DIRECTORY_ENTRY)
    ⊎ (rec_type ≡ SOFTLINK_TARGET) ⊎ (rec_type ≡ PFS_RECORD) ⊎ (rec_type ≡ SNAPSHOT)

-- so many bytes of a file that end at `end` lie in one block and begin where it begins
pub record IsInBlock (end len : ℕ) : Type 0 where
  pub some : 1 ≤ len
  pub few : len ≤ BLOCK_BYTES
  pub within : len ≤ end
  pub aligned : (end - len) % BLOCK_BYTES ≡ 0

-- what an element is about, and what its type asks of its localization, object, key and length
pub record FitsType (e : Element) : Type 0 where
  pub known : IsRecType e.base.rec_type
  pub inode_part : e.base.rec_type ≡ INODE → part_of e.base.localization ≡ INODE_PART
  pub other_part : e.base.rec_type ≢ INODE → part_of e.base.localization ≡ OTHER_PART
  pub inode : e.base.rec_type ≡ INODE → e.base.key ≡ 0
  pub target : e.base.rec_type ≡ SOFTLINK_TARGET → e.base.key ≡ 0
  pub file_bytes : e.base.rec_type ≡ FILE_BYTES → IsInBlock e.base.key e.len
  pub pfs_object : e.base.rec_type ≡ PFS_RECORD → e.base.obj.0 ≡ 1
  pub snapshot_object : e.base.rec_type ≡ SNAPSHOT → e.base.obj.0 ≡ 1
  pub pfs_number : e.base.rec_type ≡ PFS_RECORD → e.base.key ≡ pfs_of e.base.localization

-- an element that may stand in a leaf, whatever its payload holds
pub record IsElement (e : Element) : Type 0 where
  pub made : 0 < e.base.create
  pub closed : (e.base.delete ≡ 0) ⊎ (e.base.create < e.base.delete)
  pub obj_type : (1 ≤ e.base.obj_type) × (e.base.obj_type ≤ 4)
  pub btype : e.base.btype ≡ ELEMENT
  pub fits : FitsType e
