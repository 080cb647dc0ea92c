use Rattle.std.proofs.Common.{◌≡◌, ◌∙◌, refl, sym, subst, true≢false, Ok, Err, rules}
use Rattle.hm_freemap.specs.Change.{MayHold}
use Rattle.hm_freemap.specs.declared.entry.Entry.{Entry}
use Rattle.hm_freemap.proofs.CauseLemmas.{extent_cause, extent_on, too_free}
use Rattle.hm_freemap.proofs.extents.read_live.Goals as goal

pub returns-in_err-entry-clause-cause : goal.returns-in_err-entry-clause-cause
returns-in_err-entry-clause-cause g c append =
    let pages = c.args.pages.now in
    let committed = g.P.States.committed pages in
    let frozen = g.P.States.frozen pages in
    let current = g.P.Pages.pages pages in
    let old = g.P.Counted.faults pages in
    let new = g.P.Counted.faults c.read_entry.new.pages in
    let fault = c.in_err-entry.field-0.0 in
    let is : c.from_residual.result ≡ Err fault = search rules in
    extent_on {T = Entry} c.args.bigblocks append c.args.block c.args.block c.args.size c.args.size committed frozen current old new fault
    c.from_residual.result refl refl is
    (extent_cause c.args.bigblocks append c.args.block c.args.size committed frozen current old new (Err fault) (c.in_err-entry.ensures.cause append))

pub returns-then-may_hold-clause-cause : goal.returns-then-may_hold-clause-cause
returns-then-may_hold-clause-cause g c append =
    let pages = c.args.pages.now in
    extent_cause c.args.bigblocks append c.args.block c.args.size (g.P.States.committed pages) (g.P.States.frozen pages) (g.P.Pages.pages pages)
    (g.P.Counted.faults pages) (g.P.Counted.faults c.read_entry.new.pages) (Ok c.in_ok-entry.entry) (c.in_ok-entry.ensures.cause append)

pub returns-else-may_hold-clause-cause : goal.returns-else-may_hold-clause-cause
returns-else-may_hold-clause-cause g c append =
    let pages = c.args.pages.now in
    too_free c.args.bigblocks append c.args.block c.args.size c.read_entry.new.page
    (g.P.States.committed pages) (g.P.States.frozen pages) (g.P.Pages.pages pages)
    (g.P.Counted.faults pages) (g.P.Counted.faults c.read_entry.new.pages) c.bad_entry.result c.in_ok-entry.ensures.read
    (λ holds. true≢false (sym (c.may_hold.ensures.1 (subst (MayHold c.args.size) (sym c.in_ok-entry.ensures.ok.0) holds)) ∙ c.if-may_hold.false))
    c.bad_entry.ensures (c.in_ok-entry.ensures.cause append).counted.never_falls
