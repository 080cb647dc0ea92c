use Rattle.std.proofs.Common.{◌∙◌, ap, subst, arith, Bool, Result, Err}
use Rattle.std.specs.Prelude.{Option, IfSome, IsSome, is_some}
use Rattle.std.proofs.lemmas.Option.{IfSome_then}
use Rattle.std.proofs.lemmas.Result.{err_from_is_err_and, on_ok_weaker}
use Rattle.hm_types.specs.declared.fault.Fault.{Fault}
use Rattle.hm_types.specs.Faults.{HasFaultCause}
use Rattle.hm_fields.specs.Pages.{PageMap}
use Rattle.hm_key.specs.Key.{key_of}
use Rattle.hm_node.specs.Node.{node_in}
use Rattle.hm_node.specs.declared.node.Node.{Node}
use Rattle.hm_search.specs.Descent.{HasSearchCause, PassesHere}
use Rattle.hm_search.specs.declared.subtree.Subtree.{Subtree}
use Rattle.hm_search.proofs.DescentLemmas.{cause_here}
use Rattle.hm_btree.specs.Below.{HasPassCause}
use Rattle.hm_btree.specs.Change.{with_change, marking_of}
use Rattle.hm_btree.specs.Space.{IsUpdated}
use Rattle.hm_btree.proofs.PassLemmas.{place_cause_below, place_cause_result}
use Rattle.hm_btree.proofs.RootLemmas.{root_works, there_inside}
use Rattle.hm_btree.proofs.ToldLemmas.{both_alike}
use Rattle.hm_btree.proofs.StepLemmas.{level_most}
use Rattle.hm_btree.proofs.change.change_element.Goals as goal

pub returns-clause-done : goal.returns-clause-done
returns-clause-done g c =
    let key = key_of c.args.at.now in
    let told = g.S.Pages.pages c.args.space.now in
    let before : Node = node_in c.step_into.new.page in
    let after : Node = node_in c.change_in.new.page in
    on_ok_weaker c.update_page.result
    (λ written. record {
      tree = root_works (with_change key c.args.change) key (marking_of c.args.change) c.args.root (λ o. IsSome o)
          told (g.S.Pages.pages c.step_into.new.pages) (g.S.Pages.pages c.change_in.new.space)
          (g.S.Pages.pages c.update_page.new.space) before after c.in_ok-changed.changed
          (λ no. ap node_in (c.in_ok-changed.ensures.done.same no))
          (λ old tree needs. there_inside c.args.root key old tree needs) c.step_into.ensures.same.pages
          (IfSome_then told (subst (λ (s : Subtree). IfSome told (λ map. PassesHere map s before)) c.root-place.ensures
          c.in_ok-step_into.ensures.visits.there) (λ map here. here.spelled)) c.in_ok-changed.ensures.done.works written;
      told = both_alike (g.S.Pages.pages c.change_in.new.space) (g.S.Pages.pages c.update_page.new.space)
          (IsUpdated c.in_ok-changed.changed c.args.root after) written
          ∙ c.in_ok-changed.ensures.done.told ∙ ap (λ (o : Option PageMap). is_some o) c.step_into.ensures.same.pages;
    }) c.update_page.ensures.ok

pub returns-in_err-step_into-clause-cause : goal.returns-in_err-step_into-clause-cause
returns-in_err-step_into-clause-cause g c =
    let told = g.S.Pages.pages c.args.space.now in
    let old = g.S.Counted.faults c.args.space.now in
    let new = g.S.Counted.faults c.step_into.new.pages in
    let fault = c.in_err-step_into.field-0.0 in
    let p = err_from_is_err_and c.from_residual.result c.from_residual.ensures.1 in
    let whole = cause_here {T = Unit {0}} told c.root-place.result old new fault
    (subst (λ (r : Result (Unit {0}) Fault). HasFaultCause old new r) c.in_err-step_into.was c.step_into.ensures.cause) c.in_err-step_into.ensures.damage in
    rw (p.1, p.2) (subst (λ (s : Subtree). HasSearchCause {T = Unit {0}} told s old new (Err fault)) c.root-place.ensures whole)

pub returns-in_err-changed-clause-cause : goal.returns-in_err-changed-clause-cause
returns-in_err-changed-clause-cause g c =
    let told = g.S.Pages.pages c.args.space.now in
    let now = g.S.Pages.pages c.step_into.new.pages in
    let old = g.S.Counted.faults c.args.space.now in
    let mid = g.S.Counted.faults c.step_into.new.pages in
    let new = g.S.Counted.faults c.change_in.new.space in
    let node : Node = node_in c.step_into.new.page in
    let fault = c.in_err-changed.field-0.0 in
    let p = err_from_is_err_and c.from_residual-in_err-changed.result c.from_residual-in_err-changed.ensures.1 in
    let whole = place_cause_below {U = Unit {0}} told now c.root-place.result node old mid new fault
    c.step_into.ensures.same.pages c.step_into.ensures.cause.never_falls c.in_ok-step_into.ensures.visits.there
    (subst (λ (r : Result Bool Fault). HasPassCause now node mid new r) c.in_err-changed.was c.change_in.ensures.cause) in
    rw (p.1, p.2) (subst (λ (s : Subtree). HasSearchCause {T = Unit {0}} told s old new (Err fault)) c.root-place.ensures whole)

pub returns-clause-cause : goal.returns-clause-cause
returns-clause-cause g c =
    place_cause_result (g.S.Pages.pages c.args.space.now) (g.S.Pages.pages c.change_in.new.space) _
    (g.S.Counted.faults c.args.space.now) (g.S.Counted.faults c.change_in.new.space) (g.S.Counted.faults c.update_page.new.space) c.update_page.result
    (c.in_ok-changed.ensures.done.told ∙ ap (λ (o : Option PageMap). is_some o) c.step_into.ensures.same.pages)
    (omega (arith, c.step_into.ensures.cause.never_falls, c.change_in.ensures.cause.counted.never_falls)) c.update_page.ensures.cause

pub returns-in_err-changed-clause-steps : goal.returns-in_err-changed-clause-steps
returns-in_err-changed-clause-steps g c =
    let most = level_most (node_in c.step_into.new.page) c.in_ok-step_into.ensures.visits.holds.level in
    omega (arith, c.step_into.ensures.step, c.change_in.ensures.steps, most)

pub returns-clause-steps : goal.returns-clause-steps
returns-clause-steps g c =
    let most = level_most (node_in c.step_into.new.page) c.in_ok-step_into.ensures.visits.holds.level in
    omega (arith, c.step_into.ensures.step, c.change_in.ensures.steps, most)
