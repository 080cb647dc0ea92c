use Rattle.std.proofs.Common.{◌≡◌, ◌+◌, length}
use Rattle.hm_newfs.specs.Layers.{HasPage, HasPages}
use Rattle.hm_newfs.proofs.layer.Layer.fill_piece.Given as goal

abbrev pub invariant-loop-k : goal.invariant-loop-k
invariant-loop-k l = record {
  sized : length l.bytes ≡ 131072;
  pages : HasPages (λ k. HasPage l.bigblocks l.self (l.first + k)) 0 l.k l.bytes;
}
