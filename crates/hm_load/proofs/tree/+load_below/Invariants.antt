use Rattle.std.proofs.Common.{◌≡◌, ◌≤◌, IfSome}
use Rattle.hm_pages.specs.Store.{contents}
use Rattle.hm_search.specs.Descent.{levels_below}
use Rattle.hm_load.specs.Held.{AreReadFirst}
use Rattle.hm_load.specs.Loaded.{IsPlain}
use Rattle.hm_load.specs.Tree.{AddsChildren}
use Rattle.hm_load.proofs.tree.+load_below.Given as goal

abbrev pub decreases-load_below : goal.decreases-load_below
decreases-load_below g l = levels_below l.subtree.now

-- the trees of the first children came
abbrev pub invariant-loop-i : goal.invariant-loop-i
invariant-loop-i g l = record {
  told : g.D.Disk.told l.disk ≡ g.D.Disk.told l.fn.disk;
  crashes : g.D.Disk.past l.disk ≡ g.D.Disk.past l.fn.disk;
  counted : g.D.Disk.faults l.fn.disk ≤ g.D.Disk.faults l.disk;
  plain : IsPlain (contents l.store);
  children : AddsChildren l.inner l.i (contents l.initial.store).current (contents l.store).current;
  read : IfSome (g.D.Disk.told l.fn.disk) (λ t. AreReadFirst t.bytes l.volume.bigblocks l.inner l.i (contents l.store).current);
}
