use Rattle.std.proofs.Common.{◌≡◌, ℕ, ◌*◌, ◌<◌, ◌≤◌, IfSome}
use Rattle.hm_load.specs.Layer1.{HasLayer1Entry}
use Rattle.hm_load.proofs.layer1.check_layer1.Given as goal

-- the entries of the first pieces are right
abbrev pub invariant-loop-piece : goal.invariant-loop-piece
invariant-loop-piece g l = record {
  told : g.D.Disk.told l.disk ≡ g.D.Disk.told l.fn.disk;
  crashes : g.D.Disk.past l.disk ≡ g.D.Disk.past l.fn.disk;
  counted : g.D.Disk.faults l.fn.disk ≤ g.D.Disk.faults l.disk;
  entries : IfSome (g.D.Disk.told l.fn.disk) (λ t. (i : ℕ) → i < l.piece * 4096 → HasLayer1Entry t.bytes l.volume.bigblocks i);
}
