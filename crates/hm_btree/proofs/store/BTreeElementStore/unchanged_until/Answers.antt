use Rattle.std.proofs.Common.{ap}
use Rattle.std.specs.Prelude.{Option}
use Rattle.hm_fields.specs.Pages.{PageMap}
use Rattle.hm_key.specs.Key.{key_of}
use Rattle.hm_btree.specs.Tree.{told_elements, told_mark}
use Rattle.hm_btree.proofs.ReadingLemmas.{quiet_in_store, cause_in_store}
use Rattle.hm_btree.proofs.store.BTreeElementStore.unchanged_until.Goals as goal

pub returns-clause-ok : goal.returns-clause-ok
returns-clause-ok g c = quiet_in_store c.args.self.now.intact (g.S.Pages.pages c.args.self.now.space) c.args.self.now.root
    (key_of c.args.at.now) c.args.since.0 c.quiet_uncounted.result c.args.self.now.sound c.quiet_uncounted.ensures.ok

pub returns-clause-keeps : goal.returns-clause-keeps
returns-clause-keeps g c =
    let pages = c.quiet_uncounted.ensures.same.pages in
    let same = g.met.S.NodeSpace.rests c.args.self.now.space c.quiet_uncounted.new.space c.quiet_uncounted.ensures.same.rest in
    record {
      elements = ap (λ (o : Option PageMap). told_elements c.args.self.now.intact o c.args.self.now.root) pages;
      mark = ap (λ (o : Option PageMap). told_mark o c.args.self.now.root) pages;
      extents = same.2;
      room = same.0;
      free = same.1;
    }

pub returns-clause-cause : goal.returns-clause-cause
returns-clause-cause g c =
    cause_in_store c.args.self.now.intact (g.S.Pages.pages c.args.self.now.space) c.args.self.now.root
    (g.S.Counted.faults c.args.self.now.space) (g.S.Counted.faults c.quiet_uncounted.new.space) c.quiet_uncounted.result
    c.args.self.now.sound c.quiet_uncounted.ensures.cause
