-- A page is read as it stands.
use Rattle.std.proofs.Common.{◌≡◌, ◌∙◌, ap, sym, Some, None}
use Rattle.std.specs.Prelude.{option_map}
use Rattle.hm_pages.specs.Store.{contents}
use Rattle.hm_stored.specs.Heap.{heap_of}
use Rattle.hm_stored.proofs.PageLemmas.{read_kept, read_none, read_told}
use Rattle.hm_stored.proofs.tree_pages.SpacePages.page.Goals as goal

pub returns-in-Some-clause-ok : goal.returns-in-Some-clause-ok
unfolding heap_of
returns-in-Some-clause-ok g c =
    let s = c.args.self.now in
    let page : (contents s.pages.store).current c.args.at ≡ Some c.in-Some.page.now = sym c.look.ensures ∙ ap (option_map (λ p. p.now)) c.in-Some.is in
    read_told (heap_of (contents s.pages.store) (g.D.Disk.told s.disk) s.books) c.args.at c.in-Some.page.now page

pub returns-in-Some-clause-kept : goal.returns-in-Some-clause-kept
unfolding heap_of
returns-in-Some-clause-kept g c =
    let s = c.args.self.now in
    let page : (contents s.pages.store).current c.args.at ≡ Some c.in-Some.page.now = sym c.look.ensures ∙ ap (option_map (λ p. p.now)) c.in-Some.is in
    read_kept (heap_of (contents s.pages.store) (g.D.Disk.told s.disk) s.books) c.args.at c.in-Some.page.now c.if-not-self.false s.kept page

pub returns-in-None-clause-cause : goal.returns-in-None-clause-cause
unfolding heap_of
returns-in-None-clause-cause g c =
    let s = c.args.self.now in
    let none : (contents s.pages.store).current c.args.at ≡ None = sym c.look.ensures ∙ ap (option_map (λ p. p.now)) c.in-None.is in
    read_none (heap_of (contents s.pages.store) (g.D.Disk.told s.disk) s.books) c.args.at (g.D.Disk.faults s.disk) none
