use Rattle.std.proofs.Common.{◌*◌, ◌≤◌}
use Rattle.hm_types.specs.Told.{BothTell}
use Rattle.hm_newfs.specs.Layers.{HasPage, layer_bytes, layer_start}
use Rattle.hm_newfs.proofs.WriteLemmas.{PagesSoFar}
use Rattle.hm_newfs.proofs.layer.write_layer.Given as goal

-- so many pieces of 32 pages are written
abbrev pub invariant-loop-piece : goal.invariant-loop-piece
invariant-loop-piece g l = record {
  told : BothTell (g.D.Disk.told l.fn.disk) (g.D.Disk.told l.disk)
      (PagesSoFar (HasPage l.bigblocks l.layer) (layer_start l.layer) (layer_bytes l.bigblocks l.layer) (l.piece * 32)
      (g.D.Disk.left_since l.fn.disk) (g.D.Disk.left_since l.disk));
  counted : g.D.Disk.faults l.fn.disk ≤ g.D.Disk.faults l.disk;
}
