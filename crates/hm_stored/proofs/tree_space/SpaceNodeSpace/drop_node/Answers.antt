-- A node is taken out.
use Rattle.std.proofs.Common.{◌≡◌, ap, refl, arith, true}
use Rattle.hm_types.specs.Offset.{zone_of}
use Rattle.hm_types.specs.declared.zone.TheConstants.{TREE_ZONE}
use Rattle.hm_pages.specs.Store.{contents}
use Rattle.hm_stored.specs.Calls.{SameBooks}
use Rattle.hm_stored.specs.Heap.{heap_of}
use Rattle.hm_stored.proofs.BasisLemmas.{frame_same}
use Rattle.hm_stored.proofs.ChangeLemmas.{layer2_same}
use Rattle.hm_stored.proofs.NodeCallLemmas.{basis, gone_cause, gone_kept, gone_ok, gone_spent}
use Rattle.hm_stored.proofs.VolumeLemmas.{volume_kept}
use Rattle.hm_stored.proofs.tree_space.SpaceNodeSpace.drop_node.Goals as goal

pub invariant_of-self-3 : goal.invariant_of-self-3
unfolding heap_of
invariant_of-self-3 g c =
    let s = c.args.self.now in
    let old = contents s.pages.store in
    let new = contents c.take_node-gone.new.pages.store in
    let told = g.D.Disk.told s.disk in
    let then = record s.books { gave = true; whole = c.is_ok-self.result } in
    let tree = (c.is_tree_place.ensures.0 c.if-not-is_tree_place.false).zone in
    record {
      there = layer2_same s.books.bigblocks old new c.take_node-gone.ensures.frame s.there;
      kept = gone_kept old new told s.books then c.args.at c.take_node-gone.ensures.frame
          (record { bigblocks = refl; begun = refl; roots = refl; last = refl })
          refl refl refl c.if-not-self.false tree s.kept c.requires c.take_node-gone.result c.is_ok-self.ensures.value c.take_node-gone.ensures.ok;
      of_volume = volume_kept old new told told s.books then c.take_node-gone.ensures.frame
          (record { bigblocks = refl; begun = refl; roots = refl; last = refl }) c.take_node-gone.ensures.spots s.of_volume;
    }

pub returns-clause-ok : goal.returns-clause-ok
unfolding heap_of
returns-clause-ok g c =
    let s = c.args.self.now in
    let old = contents s.pages.store in
    let new = contents c.take_node-gone.new.pages.store in
    let told = g.D.Disk.told s.disk in
    let then = record s.books { gave = true; whole = c.is_ok-self.result } in
    let tree = (c.is_tree_place.ensures.0 c.if-not-is_tree_place.false).zone in
    (gone_ok old new told s.books then c.args.at c.take_node-gone.ensures.frame (record { bigblocks = refl; begun = refl; roots = refl; last = refl })
    refl refl refl c.if-not-self.false tree s.kept c.requires c.take_node-gone.result c.is_ok-self.ensures.value c.take_node-gone.ensures.ok).0

pub returns-clause-extents : goal.returns-clause-extents
unfolding heap_of
returns-clause-extents g c =
    let s = c.args.self.now in
    let old = contents s.pages.store in
    let new = contents c.take_node-gone.new.pages.store in
    let told = g.D.Disk.told s.disk in
    let then = record s.books { gave = true; whole = c.is_ok-self.result } in
    let tree = (c.is_tree_place.ensures.0 c.if-not-is_tree_place.false).zone in
    (gone_ok old new told s.books then c.args.at c.take_node-gone.ensures.frame (record { bigblocks = refl; begun = refl; roots = refl; last = refl })
    refl refl refl c.if-not-self.false tree s.kept c.requires c.take_node-gone.result c.is_ok-self.ensures.value c.take_node-gone.ensures.ok).1

pub returns-clause-spent : goal.returns-clause-spent
unfolding heap_of
returns-clause-spent g c =
    let s = c.args.self.now in
    let old = contents s.pages.store in
    let new = contents c.take_node-gone.new.pages.store in
    let told = g.D.Disk.told s.disk in
    let then = record s.books { gave = true; whole = c.is_ok-self.result } in
    let tree = (c.is_tree_place.ensures.0 c.if-not-is_tree_place.false).zone in
    let same : SameBooks s.books then = record { bigblocks = refl; begun = refl; roots = refl; last = refl } in
    let spends = gone_spent old new told s.books then c.args.at c.take_node-gone.ensures.frame same
    refl refl refl c.if-not-self.false tree s.kept c.requires c.take_node-gone.result c.is_ok-self.ensures.value c.take_node-gone.ensures.ok in
    record {
      name = refl;
      frame = ap (λ f. (f, g.D.Disk.past s.disk)) (frame_same (heap_of old told s.books) (heap_of new told then)
          (basis old new told told s.books then c.take_node-gone.ensures.frame same) refl);
      space = record { room = spends.room; free = spends.free };
    }

pub returns-clause-cause : goal.returns-clause-cause
returns-clause-cause g c =
    let s = c.args.self.now in
    gone_cause (contents s.pages.store) (g.D.Disk.told s.disk) s.books
    (g.D.Disk.faults s.disk) s.kept c.args.at c.take_node-gone.result c.requires c.take_node-gone.ensures.cause
