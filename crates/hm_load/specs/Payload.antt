-- Payloads of elements, as they stand in the bytes of a volume.
use Rattle.std.specs.Prelude.{◌≡◌, ◌⊎◌, ℕ, ◌<◌, List, Some, slice_get}
use Rattle.hm_types.specs.Elements.{FullElement}
use Rattle.hm_types.specs.Hash.{name_hash}
use Rattle.hm_types.specs.Offset.{byte_of}
use Rattle.hm_types.specs.declared.damage.TheConstants.{BAD_PAYLOAD}
use Rattle.hm_key.specs.Elements.{element_key}
use Rattle.hm_key.specs.declared.element.Element.{Element}
use Rattle.hm_key.specs.declared.rec_type.TheConstants.{DIRECTORY_ENTRY, INODE, PFS_RECORD}
use Rattle.hm_records.specs.Entry.{IsEntry, entry_bytes}
use Rattle.hm_records.specs.Payload.{IsPayload, KeyFits}
use Rattle.hm_records.specs.declared.entry.DirEntry.{DirEntry}
use Rattle.hm_load.specs.Reading.{volume_bytes}

-- an element with the bytes of its payload
abbrev pub with_payload_bytes : Element → List ℕ → FullElement
with_payload_bytes e bytes = record { key = element_key e; delete = e.base.delete; obj_type = e.base.obj_type; bytes = bytes }

-- these bytes may be the payload of an element, and the key of a directory entry fits its name
pub record IsPayloadOf (e : Element) (bytes : List ℕ) : Type 0 where
  pub payload : IsPayload (with_payload_bytes e bytes)
  pub key : (entry : DirEntry) → e.base.rec_type ≡ DIRECTORY_ENTRY → IsEntry entry → bytes ≡ entry_bytes entry → KeyFits name_hash e.base.key entry.name

-- a type of elements whose payload is read
abbrev pub IsOfRead : ℕ → Type 0
IsOfRead rec_type = (rec_type ≡ INODE) ⊎ (rec_type ≡ DIRECTORY_ENTRY) ⊎ (rec_type ≡ PFS_RECORD)

-- bytes spell a directory entry whose name a key fits
pub record IsEntryAt (key : ℕ) (bytes : List ℕ) : Type 0 where
  pub entry : DirEntry
  pub is : IsEntry entry
  pub spelled : bytes ≡ entry_bytes entry
  pub fits : KeyFits name_hash key entry.name

-- so are those that stand at its payload's offset
abbrev pub HasPayload : List ℕ → ℕ → Element → Type 0
HasPayload image bigblocks e = IsPayloadOf e (volume_bytes image bigblocks (byte_of e.payload) e.len)

-- the first damage of the payloads of some elements
pub record IsFirstBadPayload (image : List ℕ) (bigblocks : ℕ) (es : List Element) (at kind : ℕ) : Type 0 where
  pub i : ℕ
  pub element : Element
  pub is : slice_get es i ≡ Some element
  pub before : (j : ℕ) (e : Element) → j < i → slice_get es j ≡ Some e → HasPayload image bigblocks e
  pub bad : HasPayload image bigblocks element → ⊥
  pub place : at ≡ element.payload
  pub told : kind ≡ BAD_PAYLOAD
