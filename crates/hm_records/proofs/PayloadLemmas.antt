-- How long payloads are.
use Rattle.std.proofs.Common.{ℕ, ◌≤◌, List, length, inl, inr, ap, ◌∙◌, arith}
use Rattle.hm_types.specs.Elements.{FullElement}
use Rattle.hm_records.specs.Payload.{HasGrammar, IsPayload, SpellsEntry, SpellsInode, SpellsPfs}
use Rattle.hm_records.proofs.InodeLemmas.{length-inode}
use Rattle.hm_records.proofs.EntryLemmas.{length-entry}
use Rattle.hm_records.proofs.PfsLemmas.{length-pfs}

-- a size that a payload may have
abbrev IsShort : List ℕ → Type 0
IsShort bytes = (1 ≤ length bytes) × (length bytes ≤ 65568)

inode_short : (bytes : List ℕ) → SpellsInode bytes → IsShort bytes
inode_short bytes s = let size = ap length s.2 ∙ length-inode s.0 in (omega arith, omega arith)

entry_short : (bytes : List ℕ) → SpellsEntry bytes → IsShort bytes
entry_short bytes s =
    let size = ap length s.2 ∙ length-entry s.0 in
    (omega arith, omega (arith, s.1.name.size))

pfs_short : (bytes : List ℕ) → SpellsPfs bytes → IsShort bytes
pfs_short bytes s =
    let size = ap length s.2 ∙ length-pfs s.0 in
    (omega arith, omega (arith, s.1.retention.few))

by_type : (e : FullElement) → IsPayload e → HasGrammar e.key.rec_type → IsShort e.bytes
by_type e is (inl inode) = inode_short e.bytes (is.inode inode)
by_type e is (inr (inl file)) = let block = is.file_bytes file in (block.some, omega (arith, block.few))
by_type e is (inr (inr (inl entry))) = entry_short e.bytes (is.entry entry)
by_type e is (inr (inr (inr (inl target)))) = let size = is.target target in (size.0, omega (arith, size.1))
by_type e is (inr (inr (inr (inr pfs)))) = pfs_short e.bytes (is.pfs pfs)

pub payload_short : (e : FullElement) → IsPayload e → (1 ≤ length e.bytes) × (length e.bytes ≤ 65568)
payload_short e is = by_type e is is.known
