use Rattle.std.proofs.Common.{◌<◌, length, arith}
use Rattle.hm_key.specs.Key.{key_of}
use Rattle.hm_key.proofs.MarkLemmas.{passed_more, passed_quiet, passed_all}
use Rattle.hm_key.proofs.mark_list.MarkList.end_after.Goals as goal

pub loop-mark-preserved : goal.loop-mark-preserved
loop-mark-preserved c =
    let within : c.loop-mark.mark-index < length c.args.self.now.list.items = omega arith in (
      c.earlier_end-end.ensures.end,
      passed_more (key_of c.args.at.now) (key_of c.loop-mark.end)
          (key_of c.earlier_end-end.result) c.args.since _ c.args.self.now.list.items c.deref-mark-items.result.now c.loop-mark.mark-index
          c.earlier_end-end.ensures.earlier c.loop-mark.invariant.1 c.deref-mark-items.ensures.value c.earlier_end-end.ensures.passed within,
    )

pub returns-clause-quiet : goal.returns-clause-quiet
returns-clause-quiet c =
    passed_quiet (key_of c.args.at.now) (key_of c.loop-mark.end) c.args.since c.args.self.now.list.items
    (passed_all (key_of c.args.at.now) (key_of c.loop-mark.end) c.args.since c.args.self.now.list.items c.loop-mark.mark-index c.loop-mark.invariant.1
    (omega arith))
