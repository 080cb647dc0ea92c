use Rattle.std.proofs.Common.{◌≡◌, ◌*◌, ◌≤◌, IfSome}
use Rattle.hm_pages.specs.Store.{contents}
use Rattle.hm_load.specs.Freemap.{HoldsLayer2}
use Rattle.hm_load.specs.Held.{HasFirstPages}
use Rattle.hm_load.specs.Loaded.{IsPlain}
use Rattle.hm_load.proofs.layer2.load_layer2.Given as goal

-- the pages of the first pieces came
abbrev pub invariant-loop-piece : goal.invariant-loop-piece
invariant-loop-piece g l = record {
  told : g.D.Disk.told l.disk ≡ g.D.Disk.told l.fn.disk;
  crashes : g.D.Disk.past l.disk ≡ g.D.Disk.past l.fn.disk;
  counted : g.D.Disk.faults l.fn.disk ≤ g.D.Disk.faults l.disk;
  plain : IsPlain (contents l.store);
  layer : HoldsLayer2 l.header (l.piece * 32) (contents l.store).current;
  read : IfSome (g.D.Disk.told l.fn.disk) (λ t. HasFirstPages t.bytes l.header (l.piece * 32) (contents l.store).current);
}
