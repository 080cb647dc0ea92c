-- The entry of a big-block past the end of the volume is known by its numbers.
use Rattle.std.proofs.Common.{◌∙◌, ap, rules, subst}
use Rattle.hm_freemap.specs.Places.{place_of}
use Rattle.hm_load.specs.Freemap.{HoldsEntryOf, IsPastEntry}
use Rattle.hm_load.proofs.PastLemmas.{past_entry}
use Rattle.hm_load.proofs.layer2.is_entry.Goals as goal

pub returns-then-is_past : goal.returns-then-is_past
returns-then-is_past c =
    let place = c.place_of-at.ensures.value ∙ ap place_of c.from.ensures in
    let holds : HoldsEntryOf c.args.header.now c.args.block c.args.page.now =
    past_entry c.args.header.now c.requires.header c.args.block c.if-header-block.true c.args.page.now
    (subst (λ at. IsPastEntry c.args.page.now at) place (c.is_past.ensures c.if-is_past.true)) in
    search rules
