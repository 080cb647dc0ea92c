use Rattle.std.proofs.Common.{◌≡◌, ◌∙◌, ◌+◌, ◌-◌, ◌^◌, min, ℕ, ap, arith}
use Rattle.hm_types.specs.References.{pool}
use Rattle.hm_freemap.specs.Renew.{lacking_count}
use Rattle.hm_freemap.specs.Scan.{Finds}
use Rattle.hm_freemap.specs.Stand.{WhereTold, is_free_by}
use Rattle.hm_freemap.proofs.GrantLemmas.{told_none, told_some}
use Rattle.hm_freemap.proofs.ToldLemmas.{where_at}
use Rattle.hm_freemap.proofs.freemap.Freemap.admit.Goals as goal

pub returns-then-needed-eq0-clause-ok : goal.returns-then-needed-eq0-clause-ok
returns-then-needed-eq0-clause-ok g c =
    let self = c.args.self.now in
    told_none self.bigblocks c.args.zones c.args.held self.append (g.P.States.committed self.pages) (g.P.States.frozen self.pages)
    (g.P.Pages.pages self.pages) (g.P.Pages.pages c.lacking.new.pages) c.in_ok-lacking.lacking
    c.in_ok-lacking.ensures.same.0 c.in_ok-lacking.ensures.ok (omega (arith, c.count-needed.ensures.value))

pub renew-requires-clause-fresh : goal.renew-requires-clause-fresh
renew-requires-clause-fresh g c = c.in_ok-found.ensures.below

pub returns-clause-ok : goal.returns-clause-ok
returns-clause-ok g c =
    let self = c.args.self.now in
    let first = c.in_ok-lacking.ensures.same in
    let second = c.in_ok-found.ensures.same in
    let lack = c.in_ok-lacking.lacking in
    let found = c.in_ok-found.found in
    let wanted = c.saturating_add-wanted.result in
    let committed = g.P.States.committed self.pages in
    let frozen = g.P.States.frozen self.pages in
    let current = g.P.Pages.pages self.pages in
    let sized : wanted ≡ min (lacking_count lack + c.args.held) (2 ^ 32 - 1) =
    c.saturating_add-wanted.ensures ∙ ap (λ (n : ℕ). min (n + c.args.held) (2 ^ 32 - 1)) c.count-needed.ensures.value in
    let finds : WhereTold committed frozen current (λ maps. Finds (is_free_by self.append maps) wanted (pool self.bigblocks) found) =
    where_at committed frozen current (g.P.States.committed c.lacking.new.pages) (g.P.States.frozen c.lacking.new.pages) (g.P.Pages.pages c.lacking.new.pages)
    (λ maps. Finds (is_free_by self.append maps) wanted (pool self.bigblocks) found) first.1 first.2 first.0 c.in_ok-found.ensures.ok in
    told_some self.bigblocks c.args.zones c.args.held self.append c.renew.new.append committed frozen current (g.P.Pages.pages c.renew.new.pages) lack
    wanted found
    self.most c.in_ok-lacking.ensures.ok sized (omega (arith, c.count-needed.ensures.value, c.count-needed.ensures.few)) (omega arith) finds
    (rw (← first.0, ← second.0) c.in_ok-renew.ensures.ok)
