-- A call is opened.
use Rattle.std.proofs.Common.{ap, false, refl}
use Rattle.std.proofs.Math.Logic.{∥∥₁_map}
use Rattle.hm_pages.specs.Store.{contents}
use Rattle.hm_stored.specs.Heap.{heap_of}
use Rattle.hm_stored.proofs.OpenedLemmas.{opens_content}
use Rattle.hm_stored.proofs.TurnLemmas.{begin_kept, layer2_kept}
use Rattle.hm_stored.proofs.VolumeLemmas.{volume_begun}
use Rattle.hm_stored.proofs.space.Space.begin.Goals as goal

pub begin-requires : goal.begin-requires
unfolding heap_of
begin-requires g c = record { closed = c.requires.closed.begin }

pub invariant_of-self-6 : goal.invariant_of-self-6
invariant_of-self-6 g c =
    let s = c.args.self.now in
    record {
      there = layer2_kept (contents s.pages.store) (contents c.begin.new.self) s.books.bigblocks c.begin.ensures.flush.committed s.there;
      kept = ∥∥₁_map s.kept (begin_kept (contents s.pages.store) (contents c.begin.new.self)
          (g.D.Disk.told s.disk) s.books _ c.requires.closed c.begin.ensures
          refl refl c.clear.ensures.items);
      of_volume = ∥∥₁_map s.of_volume (λ k. volume_begun (contents s.pages.store) (contents c.begin.new.self) (g.D.Disk.told s.disk) s.books _ refl k
          c.begin.ensures);
    }

pub returns-clause-turn : goal.returns-clause-turn
unfolding heap_of
returns-clause-turn g c = record {
  pages = c.begin.ensures;
  rest = ap (λ l. record (heap_of (contents c.begin.new.self) (g.D.Disk.told c.args.self.now.disk) c.args.self.now.books) {
    begun = c.args.self.now.books.append;
    roots = record c.args.self.now.books.roots { current = c.args.root };
    last = c.args.last.0;
    log = l;
    gave = false;
  }) c.clear.ensures.items;
}

pub returns-clause-content : goal.returns-clause-content
returns-clause-content g c = opens_content _ _ c.args.root c.args.last.0 c.requires.closed c.args.self.now.kept (returns-clause-turn g c)
