-- An entry, and the bytes that spell it.
use Rattle.std.proofs.Common.{ap, sym, ◌∙◌, ◌≡◌, ℕ, ◌+◌, ◌≤◌, List, length, take, drop, refl, arith, length-append}
use Rattle.byteorder.specs.Endian.{little_bytes, little_number}
use Rattle.byteorder.specs.Numbers.{length-bytes_low_first}
use Rattle.hm_records.specs.declared.entry.DirEntry.{DirEntry}
use Rattle.hm_records.specs.Entry.{IsEntry, entry_bytes}
use Rattle.hm_records.proofs.NumberLemmas.{AreSmall, number_front, number_back, after_number}

-- the entry whose object and name stand where an entry has them
abbrev pub entry_in : List ℕ → DirEntry
entry_in bytes = record { obj = record { 0 = little_number 8 (take 8 bytes) }; name = drop 8 bytes }

pub length-entry : (entry : DirEntry) → length (entry_bytes entry) ≡ 8 + length entry.name
unfolding entry_bytes
length-entry entry = omega (arith, length-append (little_bytes 8 entry.obj.0) entry.name, length-bytes_low_first 0 8 entry.obj.0)

-- it is spelled by these bytes
pub entry_read : (bytes : List ℕ) → AreSmall bytes → 8 ≤ length bytes → bytes ≡ entry_bytes (entry_in bytes)
unfolding entry_bytes
entry_read bytes small long = number_front bytes small long

pub name_back : (entry : DirEntry) → drop 8 (entry_bytes entry) ≡ entry.name
unfolding entry_bytes
name_back entry = after_number entry.obj.0 entry.name

pub same_entry : (a b : DirEntry) → a.obj.0 ≡ b.obj.0 → a.name ≡ b.name → a ≡ b
same_entry a b obj name =
    let make : ℕ → List ℕ → DirEntry = λ n bytes. record { obj = record { 0 = n }; name = bytes } in
    let all : make a.obj.0 a.name ≡ make b.obj.0 b.name = rw (obj, name) refl in
    all

-- and it is the entry that was written
pub entry_back : (entry : DirEntry) → IsEntry entry → entry_in (entry_bytes entry) ≡ entry
unfolding entry_bytes
entry_back entry is =
    same_entry (entry_in (entry_bytes entry)) entry
    (number_back entry.obj.0 entry.name is.obj)
    (after_number entry.obj.0 entry.name)

-- some bytes are those of one entry
pub one_entry : (a b : DirEntry) → IsEntry a → IsEntry b → entry_bytes a ≡ entry_bytes b → a ≡ b
one_entry a b is is' same = sym (entry_back a is) ∙ ap entry_in same ∙ entry_back b is'
