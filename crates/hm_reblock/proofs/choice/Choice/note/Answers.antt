use Rattle.std.proofs.Common.{sym, ◌∙◌}
use Rattle.hm_key.specs.Key.{key_of}
use Rattle.hm_cursor.proofs.ShownLemmas.{after_is}
use Rattle.hm_cursor.proofs.StoreLemmas.{told, told_first}
use Rattle.hm_reblock.proofs.LookLemmas.{all_none, all_one, found_next}
use Rattle.hm_reblock.proofs.choice.Choice.note.Goals as goal

pub returns-clause-further : goal.returns-clause-further
returns-clause-further g c =
    found_next c.args.at.now c.in-Some.element c.in_ok-element.field-0 c.key_after.result c.in-Some.is c.in_ok-element.ensures.found c.key_after.ensures

pub returns-in_default-clause-all : goal.returns-in_default-clause-all
returns-in_default-clause-all g c =
    told (g.T.HasElements.elements c.args.store.now)
    (λ es found. all_none c.args.self.now es c.args.known.now.items (key_of c.args.at.now) (sym found ∙ c.in_default.is)) c.in_ok-element.ensures.ok

pub returns-clause-all : goal.returns-clause-all
returns-clause-all g c =
    let was = g.T.HasElements.elements c.args.store.now in
    let at = key_of c.args.at.now in
    let e = c.in-Some.element in
    told was
    (λ es search. all_one c.args.self.now es c.keep.new.known.items at e c.key_after.result search (after_is e.base c.key_after.result c.key_after.ensures)
    c.in_ok-keep.ensures.ok)
    (told_first was was at c.in_ok-element.field-0 e (λ i. was) (g.met.T.ElementStore.sorted c.args.store.now) c.in_ok-element.ensures.ok c.in-Some.is)
