-- A node is put in place of the one that stands there.
use Rattle.std.proofs.Common.{◌≡◌, ◌∙◌, Some, ap, sym, true, is_some}
use Rattle.hm_pages.specs.Store.{contents}
use Rattle.hm_stored.specs.Heap.{heap_of}
use Rattle.hm_stored.proofs.ChangeLemmas.{frame_put, kept_by, puts_by, rest_put, some_map, told_put}
use Rattle.hm_stored.proofs.VolumeLemmas.{volume_tried}
use Rattle.hm_stored.proofs.tree_pages.SpacePages.change.Goals as goal

pub returns-in-Ok-clause-ok : goal.returns-in-Ok-clause-ok
unfolding heap_of
returns-in-Ok-clause-ok g c =
    let s = c.args.self.now in
    let old = contents s.pages.store in
    let new = contents c.change.new.self in
    let told = g.D.Disk.told s.disk in
    let tree = (c.is_tree_place.ensures.0 c.if-not-is_tree_place.false).zone in
    let there : is_some (old.current c.args.at) ≡ true = ap (λ o. is_some o) (sym c.look.ensures) ∙
    (some_map (λ p. p.now) c.look.result ∙ c.if-is_none.ensures) in
    told_put (heap_of old told s.books) (heap_of new told s.books) c.args.at c.args.with.now s.books.most
    (puts_by old new told s.books c.args.at c.args.with.now c.in-Ok.ensures.changed there tree)

pub returns-in-Ok-clause-rest : goal.returns-in-Ok-clause-rest
unfolding heap_of
returns-in-Ok-clause-rest g c =
    let s = c.args.self.now in
    let old = contents s.pages.store in
    let new = contents c.change.new.self in
    let told = g.D.Disk.told s.disk in
    let tree = (c.is_tree_place.ensures.0 c.if-not-is_tree_place.false).zone in
    let there : is_some (old.current c.args.at) ≡ true = ap (λ o. is_some o) (sym c.look.ensures) ∙
    (some_map (λ p. p.now) c.look.result ∙ c.if-is_none.ensures) in
    rest_put (heap_of old told s.books) (heap_of new told s.books) c.args.at c.args.with.now s.books.most
    (puts_by old new told s.books c.args.at c.args.with.now c.in-Ok.ensures.changed there tree) s.books.below

pub returns-in-Ok-clause-frame : goal.returns-in-Ok-clause-frame
unfolding heap_of
returns-in-Ok-clause-frame g c =
    let s = c.args.self.now in
    let old = contents s.pages.store in
    let new = contents c.change.new.self in
    let told = g.D.Disk.told s.disk in
    let tree = (c.is_tree_place.ensures.0 c.if-not-is_tree_place.false).zone in
    let there : is_some (old.current c.args.at) ≡ true = ap (λ o. is_some o) (sym c.look.ensures) ∙
    (some_map (λ p. p.now) c.look.result ∙ c.if-is_none.ensures) in
    ap (λ f. (f, g.D.Disk.past s.disk)) (frame_put (heap_of old told s.books) (heap_of new told s.books) c.args.at c.args.with.now s.books.most
    (puts_by old new told s.books c.args.at c.args.with.now c.in-Ok.ensures.changed there tree))

pub invariant_of-self : goal.invariant_of-self
invariant_of-self g c =
    let s = c.args.self.now in
    let old = contents s.pages.store in
    let new = contents c.change.new.self in
    let told = g.D.Disk.told s.disk in
    let tree = (c.is_tree_place.ensures.0 c.if-not-is_tree_place.false).zone in
    let there : is_some (old.current c.args.at) ≡ true = ap (λ o. is_some o) (sym c.look.ensures) ∙
    (some_map (λ p. p.now) c.look.result ∙ c.if-is_none.ensures) in
    let both = kept_by old new told s.books c.args.at c.args.with.now c.change.result c.change.ensures.changed c.change.ensures.unchanged there tree
    c.known_offset.ensures c.requires.kept s.there s.kept in
    record {
      there = both.0;
      kept = both.1;
      of_volume = volume_tried c.args.at (Some c.args.with.now) old new told s.books c.change.result
          (c.is_tree_place.ensures.0 c.if-not-is_tree_place.false) c.change.ensures.changed c.change.ensures.unchanged s.of_volume;
    }
