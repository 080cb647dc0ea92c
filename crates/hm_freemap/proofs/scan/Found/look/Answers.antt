use Rattle.std.proofs.Common.{◌-◌, arith}
use Rattle.std.specs.List.{range_with_len}
use Rattle.hm_freemap.proofs.ScanLemmas.{finds_rest, range-one}
use Rattle.hm_freemap.proofs.scan.Found.look.Goals as goal

pub returns-then-self-limit-clause-ok : goal.returns-then-self-limit-clause-ok
returns-then-self-limit-clause-ok c free first low agreed finds =
    finds_rest free c.args.limit first c.loop-block.block c.args.to c.loop-block.self (omega arith) (omega arith) (omega arith)
    (c.loop-block.invariant.found free first low agreed finds)

pub loop-block-preserved : goal.loop-block-preserved
loop-block-preserved c = record {
  few = c.in_ok-look_at.ensures.few;
  below = λ bound within before. c.in_ok-look_at.ensures.below bound (omega arith) (c.loop-block.invariant.below bound within before);
  found = λ free first low agreed finds.
      rw (range-one first c.loop-block.block (omega arith))
      (c.in_ok-look_at.ensures.ok free (range_with_len first (c.loop-block.block - first)) (agreed c.loop-block.block (omega arith) (omega arith))
      (c.loop-block.invariant.found free first low agreed finds));
}
