-- Small things that a sound image has, or cannot have.
use Rattle.std.specs.Prelude.{ℕ, ◌+◌, codes}
use Rattle.hm_types.specs.Elements.{FullElement}
use Rattle.hm_types.specs.Layout.{start_of}
use Rattle.hm_types.specs.Offset.{raw_of}
use Rattle.hm_types.specs.References.{Reference}
use Rattle.hm_types.specs.declared.zone.TheConstants.{META_ZONE}
use Rattle.hm_key.specs.declared.rec_type.TheConstants.{DIRECTORY_ENTRY, OTHER_PART}
use Rattle.hm_records.specs.Entry.{entry_bytes}
use Rattle.hm_records.specs.declared.entry.DirEntry.{DirEntry}

-- on a volume of 24 big-blocks, the big-block that payloads which are no file bytes are appended to
abbrev pub meta_block : ℕ
meta_block = 12

-- a payload of so many bytes, so many bytes behind its begin
abbrev pub payload_at : ℕ → ℕ → Reference
payload_at byte len = record { at = raw_of META_ZONE (start_of meta_block + byte); len = len }

-- the entry of object 2 under the name `a`
abbrev pub entry_a : DirEntry
entry_a = record { obj = record { 0 = 2 }; name = codes "a" }

-- the key that fits this name, with collision number 0
abbrev pub key_of_a : ℕ
key_of_a = 0x57b1ee2643000000

-- that entry of the root directory, at a key
abbrev pub entry_at : ℕ → FullElement
entry_at key = record {
  key = record { localization = OTHER_PART; obj = 1; rec_type = DIRECTORY_ENTRY; key = key; create = 2 };
  delete = 0;
  obj_type = 2;
  bytes = entry_bytes entry_a;
}
