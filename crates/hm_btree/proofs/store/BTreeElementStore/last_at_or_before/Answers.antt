use Rattle.std.proofs.Common.{ap}
use Rattle.std.specs.Prelude.{Option}
use Rattle.std.proofs.lemmas.Option.{IfSome_then}
use Rattle.hm_fields.specs.Pages.{PageMap}
use Rattle.hm_key.specs.Elements.{last_to}
use Rattle.hm_key.specs.Key.{key_of}
use Rattle.hm_btree.specs.Tree.{told_elements, told_mark}
use Rattle.hm_btree.proofs.ReadingLemmas.{picked_in_store, cause_in_store}
use Rattle.hm_btree.proofs.store.BTreeElementStore.last_at_or_before.Goals as goal

pub returns-clause-ok : goal.returns-clause-ok
returns-clause-ok g c = picked_in_store (last_to (key_of c.args.at.now)) c.args.self.now.intact (g.S.Pages.pages c.args.self.now.space)
    c.args.self.now.root c.last_uncounted.result c.args.self.now.sound
    (IfSome_then (g.S.Pages.pages c.args.self.now.space) c.last_uncounted.ensures.ok (λ pages found sound whole. found sound))

pub returns-clause-keeps : goal.returns-clause-keeps
returns-clause-keeps g c =
    let pages = c.last_uncounted.ensures.same.pages in
    let same = g.met.S.NodeSpace.rests c.args.self.now.space c.last_uncounted.new.space c.last_uncounted.ensures.same.rest in
    record {
      elements = ap (λ (o : Option PageMap). told_elements c.args.self.now.intact o c.args.self.now.root) pages;
      mark = ap (λ (o : Option PageMap). told_mark o c.args.self.now.root) pages;
      extents = same.2;
      room = same.0;
      free = same.1;
    }

pub returns-clause-cause : goal.returns-clause-cause
returns-clause-cause g c =
    cause_in_store c.args.self.now.intact (g.S.Pages.pages c.args.self.now.space) c.args.self.now.root
    (g.S.Counted.faults c.args.self.now.space) (g.S.Counted.faults c.last_uncounted.new.space) c.last_uncounted.result
    c.args.self.now.sound c.last_uncounted.ensures.cause
