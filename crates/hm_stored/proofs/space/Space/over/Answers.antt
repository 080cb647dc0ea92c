-- A space is made over a volume.
use Rattle.hm_pages.specs.Store.{contents}
use Rattle.hm_stored.proofs.TreeLemmas.{tree_nodes}
use Rattle.hm_stored.proofs.TurnLemmas.{over_kept}
use Rattle.hm_stored.proofs.VolumeLemmas.{volume_over}
use Rattle.hm_stored.proofs.space.Space.over.Goals as goal

pub invariant_of-result : goal.invariant_of-result
invariant_of-result g c = record {
  there = c.requires.layer2;
  kept = ∣ over_kept (contents c.args.store) (g.D.Disk.told c.args.disk) c.args.books c.requires.closed
      (tree_nodes (contents c.args.store).current c.args.books.roots.current c.requires.tree) c.requires.size ∣₁;
  of_volume = ∣ volume_over (contents c.args.store) (g.D.Disk.told c.args.disk) c.args.books c.requires.closed c.requires.only
      c.requires.placed ∣₁;
}
