-- A node is added where there is room.
use Rattle.std.proofs.Common.{ℕ, ◌≤◌, ap, refl, subst}
use Rattle.hm_types.specs.declared.zone.TheConstants.{TREE_ZONE}
use Rattle.hm_pages.specs.Store.{contents}
use Rattle.hm_stored.specs.Calls.{SameBooks}
use Rattle.hm_stored.specs.Heap.{heap_of}
use Rattle.hm_stored.proofs.BasisLemmas.{frame_same}
use Rattle.hm_stored.proofs.ChangeLemmas.{layer2_same}
use Rattle.hm_stored.proofs.NewNodeLemmas.{room_whole}
use Rattle.hm_stored.proofs.NodeCallLemmas.{basis, new_cause, new_kept, new_ok, new_spent, ok_map}
use Rattle.hm_stored.proofs.VolumeLemmas.{volume_kept}
use Rattle.hm_stored.proofs.tree_space.SpaceNodeSpace.new_node.Goals as goal

pub add_node-added-requires-clause-room : goal.add_node-added-requires-clause-room
unfolding heap_of
add_node-added-requires-clause-room g c =
    let s = c.args.self.now in
    subst (λ (n : ℕ). 4096 ≤ n) (room_whole (heap_of (contents s.pages.store) (g.D.Disk.told s.disk) s.books) c.if-not-self.false TREE_ZONE) c.requires.room

pub returns-clause-cause : goal.returns-clause-cause
returns-clause-cause g c =
    let s = c.args.self.now in
    new_cause (contents s.pages.store) (g.D.Disk.told s.disk) s.books (g.D.Disk.faults s.disk) s.kept c.add_node-added.result c.add_node-added.ensures.cause

pub invariant_of-self-2 : goal.invariant_of-self-2
unfolding heap_of
invariant_of-self-2 g c =
    let s = c.args.self.now in
    let old = contents s.pages.store in
    let new = contents c.add_node-added.new.pages.store in
    let told = g.D.Disk.told s.disk in
    let then = record s.books { whole = c.is_ok-self.result } in
    record {
      there = layer2_same s.books.bigblocks old new c.add_node-added.ensures.frame s.there;
      kept = new_kept old new told s.books then c.args.with.now c.add_node-added.ensures.frame
          (record { bigblocks = refl; begun = refl; roots = refl; last = refl })
          refl refl refl c.if-not-self.false s.kept c.add_node-added.result c.is_ok-self.ensures.value c.requires.node c.add_node-added.ensures.ok;
      of_volume = volume_kept old new told told s.books then c.add_node-added.ensures.frame
          (record { bigblocks = refl; begun = refl; roots = refl; last = refl }) c.add_node-added.ensures.spots s.of_volume;
    }

pub returns-clause-ok : goal.returns-clause-ok
unfolding heap_of
returns-clause-ok g c =
    let s = c.args.self.now in
    let old = contents s.pages.store in
    let new = contents c.add_node-added.new.pages.store in
    let told = g.D.Disk.told s.disk in
    let then = record s.books { whole = c.is_ok-self.result } in
    ok_map _ _ c.add_node-added.result (λ at is. record { told = is.0; spot = is.1; room = is.2; extents = is.3 })
    (new_ok old new told s.books then c.args.with.now c.add_node-added.ensures.frame (record { bigblocks = refl; begun = refl; roots = refl; last = refl })
    refl refl refl c.if-not-self.false s.kept c.add_node-added.result c.is_ok-self.ensures.value c.requires.room c.add_node-added.ensures.ok)

pub returns-clause-spent : goal.returns-clause-spent
unfolding heap_of
returns-clause-spent g c =
    let s = c.args.self.now in
    let old = contents s.pages.store in
    let new = contents c.add_node-added.new.pages.store in
    let told = g.D.Disk.told s.disk in
    let then = record s.books { whole = c.is_ok-self.result } in
    let same : SameBooks s.books then = record { bigblocks = refl; begun = refl; roots = refl; last = refl } in
    let spends = new_spent old new told s.books then c.args.with.now c.add_node-added.ensures.frame same
    refl refl refl c.if-not-self.false s.kept c.add_node-added.result c.is_ok-self.ensures.value c.add_node-added.ensures.ok in
    record {
      name = refl;
      frame = ap (λ f. (f, g.D.Disk.past s.disk)) (frame_same (heap_of old told s.books) (heap_of new told then)
          (basis old new told told s.books then c.add_node-added.ensures.frame same) refl);
      space = record { room = spends.room; free = spends.free };
    }
