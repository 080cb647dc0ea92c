use Rattle.std.proofs.Common.{ap, arith, length}
use Rattle.hm_records.proofs.PfsLemmas.{length-pfs}
use Rattle.hm_records.proofs.PlainTreeLemmas.{ok_weaker}
use Rattle.hm_pfs.proofs.payload.encode_record.Goals as goal

pub returns-clause-few : goal.returns-clause-few
returns-clause-few c =
    ok_weaker c.encode_pfs.result _ _
    (λ bytes is. omega (arith, ap length is, length-pfs c.args.value.now, c.pairs.ensures.retention.few)) c.encode_pfs.ensures
