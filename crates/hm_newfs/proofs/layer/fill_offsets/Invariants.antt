use Rattle.hm_newfs.specs.Layers.{HoldsOffsets}
use Rattle.hm_newfs.proofs.layer.fill_offsets.Given as goal

abbrev pub invariant-loop-i : goal.invariant-loop-i
invariant-loop-i l = HoldsOffsets l.bigblocks l.first l.i l.page
