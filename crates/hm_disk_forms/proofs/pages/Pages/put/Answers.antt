use Rattle.std.proofs.Common.{arith}
use Rattle.hm_disk_forms.proofs.PageLemmas.{Overwrites-more}
use Rattle.hm_disk_forms.proofs.pages.Pages.put.Goals as goal

pub loop-done-preserved : goal.loop-done-preserved
loop-done-preserved c = record {
  within = omega arith;
  there = λ i below. c.put_piece.ensures.others _ (c.loop-done.invariant.there i below);
  written = Overwrites-more _ _ _ c.args.place c.loop-done.done c.piece_len-count.result c.args.bytes.now (omega arith)
      c.loop-done.invariant.written c.put_piece.ensures.written;
}
