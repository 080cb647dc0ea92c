use Rattle.std.proofs.Common.{◌≡◌, ◌∙◌, slice_index, nat_lt, ap, Err, rules}
use Rattle.hm_freemap.specs.Admit.{IsLookedAt}
use Rattle.hm_freemap.specs.Stand.{append_of}
use Rattle.hm_freemap.specs.declared.entry.Entry.{Entry}
use Rattle.hm_freemap.proofs.CauseLemmas.{bad_zone, cause_ok, cause_wide, looked_append}
use Rattle.hm_freemap.proofs.admit.lacks.Goals as goal

pub returns-in_err-entry-clause-cause : goal.returns-in_err-entry-clause-cause
returns-in_err-entry-clause-cause g c =
    let pages = c.args.pages.now in
    let append = c.args.append.now in
    let block = c.from-block.result in
    let is : c.from_residual.result ≡ Err c.in_err-entry.field-0.0 = search rules in
    let one : block ≡ append_of append c.args.zone = c.from-block.ensures ∙ ap (slice_index append) c.from.ensures in
    cause_wide {T = Entry} c.args.bigblocks append (λ b. b ≡ block) (IsLookedAt c.args.bigblocks append)
    (g.P.States.committed pages) (g.P.States.frozen pages) (g.P.Pages.pages pages)
    (g.P.Counted.faults pages) (g.P.Counted.faults c.read_entry.new.pages) c.in_err-entry.field-0.0 c.from_residual.result
    (λ b same. looked_append c.args.bigblocks append c.args.zone b c.requires.zone.0 c.requires.zone.1 (same ∙ one)) is (c.in_err-entry.ensures.cause append)

pub returns-then-entry-zone-clause-cause : goal.returns-then-entry-zone-clause-cause
returns-then-entry-zone-clause-cause g c =
    let pages = c.args.pages.now in
    let append = c.args.append.now in
    let block = c.from-block.result in
    let one : block ≡ append_of append c.args.zone = c.from-block.ensures ∙ ap (slice_index append) c.from.ensures in
    bad_zone c.args.bigblocks append c.args.zone block c.read_entry.new.page (g.P.States.committed pages) (g.P.States.frozen pages) (g.P.Pages.pages pages)
    (g.P.Counted.faults pages) (g.P.Counted.faults c.read_entry.new.pages) c.bad_entry.result
    c.requires.zone.0 c.requires.zone.1 one c.in_ok-entry.ensures.read
    (λ same. c.if-entry-zone.true (ap (λ (e : Entry). e.zone) c.in_ok-entry.ensures.ok.0 ∙ same))
    c.bad_entry.ensures (c.in_ok-entry.ensures.cause append).counted.never_falls

pub returns-clause-cause : goal.returns-clause-cause
returns-clause-cause g c =
    let pages = c.args.pages.now in
    let append = c.args.append.now in
    cause_ok c.args.bigblocks append (IsLookedAt c.args.bigblocks append) (g.P.States.committed pages) (g.P.States.frozen pages) (g.P.Pages.pages pages)
    (g.P.Counted.faults pages) (g.P.Counted.faults c.read_entry.new.pages) (nat_lt c.saturating_sub.result c.reserve.result)
    (c.in_ok-entry.ensures.cause append).counted.never_falls
