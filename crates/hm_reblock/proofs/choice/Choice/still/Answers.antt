use Rattle.std.proofs.Common.{refl, sym, ◌∙◌, true≢false}
use Rattle.hm_key.specs.Key.{key_of}
use Rattle.hm_key.proofs.SweepLemmas.{found_there}
use Rattle.hm_cursor.proofs.StoreLemmas.{told_both}
use Rattle.hm_reblock.proofs.LookLemmas.{none_still, other_still}
use Rattle.hm_reblock.proofs.choice.Choice.still.Goals as goal

pub returns-in_default-clause-ok : goal.returns-in_default-clause-ok
returns-in_default-clause-ok g c =
    told_both (g.T.HasElements.elements c.args.store.now)
    (λ es content found. none_still c.args.self.now es c.args.known.now content.rising (sym found ∙ c.in_default.is))
    (g.met.T.ElementStore.sorted c.args.store.now) c.in_ok-element.ensures.ok

pub returns-then-is_still-clause-ok : goal.returns-then-is_still-clause-ok
returns-then-is_still-clause-ok g c =
    let elements = g.T.HasElements.elements in
    found_there (key_of c.args.known.now.base) c.in-Some.element c.in_ok-element.field-0 (elements c.args.store.now) (elements c.args.store.now)
    refl (g.met.T.ElementStore.sorted c.args.store.now) c.in_ok-element.ensures.ok c.in-Some.is

pub returns-clause-ok : goal.returns-clause-ok
returns-clause-ok g c =
    told_both (g.T.HasElements.elements c.args.store.now)
    (λ es content found. other_still c.args.self.now es c.args.known.now c.in-Some.element content.rising (sym found ∙ c.in-Some.is)
    (λ is. true≢false (sym (c.is_still.ensures.1 is) ∙ c.if-is_still.false)))
    (g.met.T.ElementStore.sorted c.args.store.now) c.in_ok-element.ensures.ok
