use Rattle.hm_records.specs.Payload.{SpellsPfs}
use Rattle.hm_load.specs.Payload.{IsPayloadOf}
use Rattle.hm_load.proofs.PayloadLemmas.{entry_payload, inode_payload, of_entry, pfs_payload}
use Rattle.hm_load.proofs.StoreLemmas.{iff_ok, iff_through}
use Rattle.hm_load.proofs.payload.is_spelled.Goals as goal

pub returns-then-rec_type-eq-INODE : goal.returns-then-rec_type-eq-INODE
returns-then-rec_type-eq-INODE c = iff_through c.is_inode.ensures (inode_payload c.args.element.now c.args.bytes.now c.if-rec_type-eq-INODE.true)

pub returns-then-rec_type-eq-PFS_RECORD : goal.returns-then-rec_type-eq-PFS_RECORD
returns-then-rec_type-eq-PFS_RECORD c =
    iff_ok c.is_record.result (SpellsPfs c.args.bytes.now) (IsPayloadOf c.args.element.now c.args.bytes.now)
    (pfs_payload c.args.element.now c.args.bytes.now c.if-rec_type-eq-PFS_RECORD.true) c.is_record.ensures

pub returns : goal.returns
returns c =
    iff_through c.is_entry.ensures (entry_payload c.args.element.now c.args.bytes.now
    (of_entry c.args.element.now.base.rec_type c.requires c.if-rec_type-eq-INODE.false c.if-rec_type-eq-PFS_RECORD.false))
