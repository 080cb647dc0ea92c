use Rattle.std.proofs.Common.{◌≡◌, ap, sym, subst, ◌∙◌, length, Some}
use Rattle.std.proofs.lemmas.Bool.{false≢true}
use Rattle.hm_records.specs.declared.inode.Inode.{Inode}
use Rattle.hm_records.specs.Inode.{IsInode, inode_bytes}
use Rattle.hm_records.proofs.InodeLemmas.{length-inode}
use Rattle.hm_records.proofs.inode.spelled_by.Goals as goal

pub returns-then-bytes-ne-INODE_BYTES-clause-only : goal.returns-then-bytes-ne-INODE_BYTES-clause-only
returns-then-bytes-ne-INODE_BYTES-clause-only c =
    λ inode is same. absurd (c.if-bytes-ne-INODE_BYTES.true (ap length same ∙ length-inode inode))

pub returns-then-spells-clause-only : goal.returns-then-spells-clause-only
returns-then-spells-clause-only c =
    λ inode is same. ap (λ (i : Inode). Some i) (c.numbers_in-inode.ensures inode is same)

pub returns-else-spells-clause-only : goal.returns-else-spells-clause-only
returns-else-spells-clause-only c = λ inode is same.
    let P : Inode → Type 0 = λ i. IsInode i × (c.args.bytes.now ≡ inode_bytes i) in
    absurd (false≢true (c.if-spells.ensures.1 (subst P (sym (c.numbers_in-inode.ensures inode is same)) (is, same))))
