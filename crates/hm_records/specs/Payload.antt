-- Which bytes the payload of an element may be, by what the element is about.
use Rattle.std.specs.Prelude.{◌≡◌, ◌⊎◌, ℕ, ◌/◌, ◌^◌, List, length}
use Rattle.hm_types.specs.Elements.{FullElement}
use Rattle.hm_key.specs.Element.{IsInBlock}
use Rattle.hm_key.specs.declared.rec_type.TheConstants.{INODE, FILE_BYTES, DIRECTORY_ENTRY, SOFTLINK_TARGET, PFS_RECORD}
use Rattle.hm_records.specs.declared.inode.Inode.{Inode}
use Rattle.hm_records.specs.declared.entry.DirEntry.{DirEntry}
use Rattle.hm_records.specs.declared.pfs_record.PfsRecord.{PfsRecord}
use Rattle.hm_records.specs.Entry.{IsEntry, entry_bytes}
use Rattle.hm_records.specs.Inode.{IsInode, inode_bytes}
use Rattle.hm_records.specs.PfsRecord.{IsPfsRecord, pfs_bytes}
use Rattle.hm_records.specs.Target.{IsTarget}

-- the bytes spell an inode
abbrev pub SpellsInode : List ℕ → Type 0
SpellsInode bytes = (inode : Inode) × IsInode inode × (bytes ≡ inode_bytes inode)

-- the bytes spell a directory entry
abbrev pub SpellsEntry : List ℕ → Type 0
SpellsEntry bytes = (entry : DirEntry) × IsEntry entry × (bytes ≡ entry_bytes entry)

-- the bytes spell the record of a pseudo file system
abbrev pub SpellsPfs : List ℕ → Type 0
SpellsPfs bytes = (r : PfsRecord) × IsPfsRecord r × (bytes ≡ pfs_bytes r)

-- a type of elements whose payload has a grammar
abbrev pub HasGrammar : ℕ → Type 0
HasGrammar rec_type =
    (rec_type ≡ INODE) ⊎ (rec_type ≡ FILE_BYTES) ⊎ (rec_type ≡ DIRECTORY_ENTRY)
    ⊎ (rec_type ≡ SOFTLINK_TARGET) ⊎ (rec_type ≡ PFS_RECORD)

-- An element's payload keeps the grammar of its type. The bytes of a file are any bytes, at most a block, that
-- end at the element's key and begin where a block begins.
pub record IsPayload (e : FullElement) : Type 0 where
  pub known : HasGrammar e.key.rec_type
  pub inode : e.key.rec_type ≡ INODE → SpellsInode e.bytes
  pub file_bytes : e.key.rec_type ≡ FILE_BYTES → IsInBlock e.key.key (length e.bytes)
  pub entry : e.key.rec_type ≡ DIRECTORY_ENTRY → SpellsEntry e.bytes
  pub target : e.key.rec_type ≡ SOFTLINK_TARGET → IsTarget e.bytes
  pub pfs : e.key.rec_type ≡ PFS_RECORD → SpellsPfs e.bytes

-- A directory entry's key fits its name: without its low 16 bits, which tell apart the names of one hash and may be
-- any, it is the name's hash without its lowest bit, moved down by that bit.
abbrev pub KeyFits : (List ℕ → ℕ) → ℕ → List ℕ → Type 0
KeyFits hash key name = key / 2 ^ 16 ≡ hash name / 2 / 2 ^ 16
