use Rattle.std.proofs.Common.{subst}
use Rattle.hm_key.specs.Counts.{Counts, Subject}
use Rattle.hm_records.specs.Changes.{CountsNothing}
use Rattle.hm_records.proofs.PlainLemmas.{no_inode_at, no_object_at}
use Rattle.hm_records.proofs.plain.content.object_at.Goals as goal

pub returns-in_default : goal.returns-in_default
returns-in_default c =
    no_object_at c.args.elements.now c.args.id c.args.pfs.0 c.args.number.0
    (subst (λ (s : Subject). CountsNothing (Counts c.args.elements.now c.args.id) s) c.inode_of.ensures c.in_default.ensures)

pub returns-in_default-decode_inode : goal.returns-in_default-decode_inode
returns-in_default-decode_inode c =
    no_inode_at c.args.elements.now c.args.id c.args.pfs.0 c.args.number.0 c.in-Some.bytes.now c.requires
    (subst (λ (s : Subject). Counts c.args.elements.now c.args.id s c.in-Some.bytes.now) c.inode_of.ensures c.in-Some.ensures)
    (λ inode is same. c.in_default-decode_inode.not-Ok inode (c.decode_inode.ensures.only inode is same))
