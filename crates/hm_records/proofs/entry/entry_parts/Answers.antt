use Rattle.std.proofs.Common.{◌≡◌, ap, subst, sym, ◌∙◌, List, length, ℕ, drop, arith, rules}
use Rattle.std.proofs.lemmas.Bool.{false≢true}
use Rattle.byteorder.specs.Endian.{little_number}
use Rattle.hm_types.specs.Name.{IsName}
use Rattle.hm_records.specs.declared.entry.DirEntry.{DirEntry}
use Rattle.hm_records.specs.Entry.{entry_bytes}
use Rattle.hm_records.proofs.EntryLemmas.{entry_in, entry_read, entry_back, name_back, same_entry, length-entry}
use Rattle.hm_records.proofs.entry.entry_parts.Goals as goal

pub returns-then-bytes-lt-OBJ_BYTES-clause-only : goal.returns-then-bytes-lt-OBJ_BYTES-clause-only
returns-then-bytes-lt-OBJ_BYTES-clause-only c = λ entry is same.
    absurd (omega (arith, c.if-bytes-lt-OBJ_BYTES.true, ap length same, length-entry entry))

pub returns-then-not-is_name-clause-only : goal.returns-then-not-is_name-clause-only
returns-then-not-is_name-clause-only c = λ entry is same.
    let name : c.split_at.result.1.now ≡ entry.name = c.split_at.ensures.back ∙ ap (λ (xs : List ℕ). drop 8 xs) same ∙ name_back entry in
    absurd (false≢true (c.if-not-is_name.ensures.1 (subst IsName (sym name) is.name)))

pub returns-clause-some : goal.returns-clause-some
returns-clause-some c =
    let read = c.read_u64.ensures ∙ ap (λ (xs : List ℕ). little_number 8 xs) c.split_at.ensures.front in
    let entry : DirEntry = record { obj = record { 0 = c.read_u64.result }; name = c.split_at.result.1.now } in
    let made : entry ≡ entry_in c.args.bytes.now = same_entry entry (entry_in c.args.bytes.now) read c.split_at.ensures.back in (
      record { obj = omega arith; name = c.if-not-is_name.ensures.0 (search rules) },
      entry_read c.args.bytes.now (λ i. omega (arith, c.type_inv.bytes i)) c.if-bytes-lt-OBJ_BYTES.false ∙ ap entry_bytes (sym made),
    )

pub returns-clause-only : goal.returns-clause-only
returns-clause-only c = λ entry is same.
    let read = c.read_u64.ensures ∙ ap (λ (xs : List ℕ). little_number 8 xs) c.split_at.ensures.front in
    let one : DirEntry = record { obj = record { 0 = c.read_u64.result }; name = c.split_at.result.1.now } in
    let made : one ≡ entry =
    same_entry one (entry_in c.args.bytes.now) read c.split_at.ensures.back ∙ ap entry_in same ∙ entry_back entry is in
    (ap (λ (e : DirEntry). e.obj) made, ap (λ (e : DirEntry). e.name) made)
