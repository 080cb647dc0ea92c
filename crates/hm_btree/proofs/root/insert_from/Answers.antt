use Rattle.std.proofs.Common.{◌*◌, ◌-◌, ℕ, ap, true≢false, subst, arith, Result, Err}
use Rattle.std.specs.Prelude.{List, Option, IsNone, IfOk, IfSome}
use Rattle.std.proofs.lemmas.Option.{IfSome_then}
use Rattle.std.proofs.lemmas.Result.{err_from_is_err_and}
use Rattle.hm_fields.specs.Pages.{page_in}
use Rattle.hm_types.specs.Faults.{HasFaultCause}
use Rattle.hm_types.specs.declared.fault.Fault.{Fault}
use Rattle.hm_key.specs.declared.base.Base.{Base}
use Rattle.hm_node.specs.declared.node.Node.{Node}
use Rattle.hm_btree.specs.Below.{HasPassCause}
use Rattle.hm_btree.specs.Space.{IsUpdated}
use Rattle.hm_key.specs.Elements.{inserted, last_id}
use Rattle.hm_key.specs.Key.{key_of}
use Rattle.hm_types.specs.declared.space.TheConstants.{INSERT_ROOM}
use Rattle.hm_node.specs.Node.{level_of, node_in}
use Rattle.hm_search.specs.Descent.{HasSearchCause, PassesHere}
use Rattle.hm_search.specs.declared.subtree.Subtree.{Subtree}
use Rattle.hm_search.proofs.DescentLemmas.{cause_here}
use Rattle.hm_btree.specs.Marking.{Writes}
use Rattle.hm_btree.specs.Grow.{AddsTop, Grows, upper_at, upper_of}
use Rattle.hm_btree.specs.declared.space.TheConstants.{NODE_BYTES}
use Rattle.hm_btree.specs.declared.upper.Grown.{Grown}
use Rattle.hm_btree.specs.declared.upper.Upper.{Upper}
use Rattle.hm_btree.proofs.EndLemmas.{element_inside}
use Rattle.hm_btree.proofs.KeptLemmas.{kept_read, kept_change, kept_both, kept_then}
use Rattle.hm_btree.proofs.InsertLemmas.{spends_add, spends_none, level_room}
use Rattle.hm_btree.proofs.PassLemmas.{place_cause_below}
use Rattle.hm_btree.proofs.RootLemmas.{root_works}
use Rattle.hm_btree.proofs.TopLemmas.{inserts_from, top_kept, top_result}
use Rattle.hm_btree.proofs.UpdateLemmas.{surely_written}
use Rattle.hm_btree.proofs.StepLemmas.{level_most}
use Rattle.hm_btree.proofs.root.insert_from.Goals as goal

pub returns-in_err-step_into-clause-spent : goal.returns-in_err-step_into-clause-spent
returns-in_err-step_into-clause-spent g c =
    let same = g.met.S.NodeSpace.rests c.args.space.now c.step_into.new.pages c.step_into.ensures.same.rest in
    spends_none g.S.Counted g.S.HasRoom c.args.space.now c.step_into.new.pages INSERT_ROOM same c.step_into.ensures.same.name c.step_into.ensures.same.frame

pub returns-in_err-step_into-clause-cause : goal.returns-in_err-step_into-clause-cause
returns-in_err-step_into-clause-cause g c =
    let told = g.S.Pages.pages c.args.space.now in
    let old = g.S.Counted.faults c.args.space.now in
    let new = g.S.Counted.faults c.step_into.new.pages in
    let fault = c.in_err-step_into.field-0.0 in
    let p = err_from_is_err_and c.from_residual.result c.from_residual.ensures.1 in
    let whole = cause_here {T = ℕ} told c.root-place.result old new fault
    (subst (λ (r : Result (Unit {0}) Fault). HasFaultCause old new r) c.in_err-step_into.was c.step_into.ensures.cause) c.in_err-step_into.ensures.damage in
    rw (p.1, p.2) (subst (λ (s : Subtree). HasSearchCause {T = ℕ} told s old new (Err fault)) c.root-place.ensures whole)

pub returns-in_err-changed-clause-cause : goal.returns-in_err-changed-clause-cause
returns-in_err-changed-clause-cause g c =
    let told = g.S.Pages.pages c.args.space.now in
    let now = g.S.Pages.pages c.step_into.new.pages in
    let old = g.S.Counted.faults c.args.space.now in
    let mid = g.S.Counted.faults c.step_into.new.pages in
    let new = g.S.Counted.faults c.insert_into.new.space in
    let node : Node = node_in c.step_into.new.page in
    let fault = c.in_err-changed.field-0.0 in
    let p = err_from_is_err_and c.from_residual-in_err-changed.result c.from_residual-in_err-changed.ensures.1 in
    let whole = place_cause_below {U = ℕ} told now c.root-place.result node old mid new fault
    c.step_into.ensures.same.pages c.step_into.ensures.cause.never_falls c.in_ok-step_into.ensures.visits.there
    (subst (λ (r : Result Grown Fault). HasPassCause now node mid new r) c.in_err-changed.was c.insert_into.ensures.cause) in
    rw (p.1, p.2) (subst (λ (s : Subtree). HasSearchCause {T = ℕ} told s old new (Err fault)) c.root-place.ensures whole)

pub returns-in_err-update_page-clause-spent : goal.returns-in_err-update_page-clause-spent
returns-in_err-update_page-clause-spent g c =
    let same = g.met.S.NodeSpace.rests c.args.space.now c.step_into.new.pages c.step_into.ensures.same.rest in
    let kept = g.met.S.NodeSpace.rests c.insert_into.new.space c.update_page.new.space c.update_page.ensures.rest in
    let below : ℕ = NODE_BYTES * (level_of (node_in c.step_into.new.page) - 1) in
    let low = level_room (node_in c.step_into.new.page) c.in_ok-step_into.ensures.visits.holds.level in
    let first = spends_add g.S.Counted g.S.HasRoom c.args.space.now c.step_into.new.pages c.insert_into.new.space 0 below INSERT_ROOM
    (omega (arith, low)) (spends_none g.S.Counted g.S.HasRoom c.args.space.now c.step_into.new.pages 0 same c.step_into.ensures.same.name
    c.step_into.ensures.same.frame) c.insert_into.ensures.spent in
    spends_add g.S.Counted g.S.HasRoom c.args.space.now c.insert_into.new.space c.update_page.new.space INSERT_ROOM 0 INSERT_ROOM (omega arith)
    first (spends_none g.S.Counted g.S.HasRoom c.insert_into.new.space c.update_page.new.space 0 kept c.update_page.ensures.stays.name
    c.update_page.ensures.stays.frame)

pub returns-in-None-clause-done : goal.returns-in-None-clause-done
returns-in-None-clause-done g c =
    let e = c.args.element.now in
    let key = key_of e.base in
    let told = g.S.Pages.pages c.args.space.now in
    let before : Node = node_in c.step_into.new.page in
    let after : Node = node_in c.insert_into.new.page in
    let grows = subst (λ (o : Option Base). Grows (inserted e) key (Writes (last_id e)) (λ x. IsNone x)
    (g.S.Pages.pages c.step_into.new.pages) (g.S.Pages.pages c.insert_into.new.space) before after (upper_of o (page_in c.insert_into.new.upper)))
    c.in-None.is c.in_ok-changed.ensures.done.grows in
    record {
      tree = root_works (inserted e) key (Writes (last_id e)) c.args.root (λ o. IsNone o)
          told (g.S.Pages.pages c.step_into.new.pages) (g.S.Pages.pages c.insert_into.new.space)
          (g.S.Pages.pages c.update_page.new.space) before after c.in_ok-changed.field-0.changed
          (λ no. ap node_in (c.in_ok-changed.ensures.done.same no).0)
          (λ old tree needs. element_inside c.args.root e c.requires.element.element c.known_range.ensures) c.step_into.ensures.same.pages
          (IfSome_then told (subst (λ (s : Subtree). IfSome told (λ map. PassesHere map s before)) c.root-place.ensures
          c.in_ok-step_into.ensures.visits.there) (λ map here. here.spelled)) grows c.in_ok-update_page.ensures.ok;
      kept = let same = g.met.S.NodeSpace.rests c.args.space.now c.step_into.new.pages c.step_into.ensures.same.rest in
          let kept = g.met.S.NodeSpace.rests c.insert_into.new.space c.update_page.new.space c.update_page.ensures.rest in
          let read = kept_read g.S.Pages g.S.HasRoom c.args.space.now c.step_into.new.pages same.2 c.step_into.ensures.same.pages in
          let below = kept_both g.S.Pages g.S.HasRoom c.args.space.now c.step_into.new.pages c.insert_into.new.space read c.in_ok-changed.ensures.done.kept in
          kept_both g.S.Pages g.S.HasRoom c.args.space.now c.insert_into.new.space c.update_page.new.space below
          (kept_change g.S.Pages g.S.HasRoom c.insert_into.new.space c.update_page.new.space
          (IsUpdated c.in_ok-changed.field-0.changed c.args.root after) kept.2 c.in_ok-update_page.ensures.ok);
    }

pub returns-in-None-clause-spent : goal.returns-in-None-clause-spent
returns-in-None-clause-spent g c =
    let same = g.met.S.NodeSpace.rests c.args.space.now c.step_into.new.pages c.step_into.ensures.same.rest in
    let kept = g.met.S.NodeSpace.rests c.insert_into.new.space c.update_page.new.space c.update_page.ensures.rest in
    let below : ℕ = NODE_BYTES * (level_of (node_in c.step_into.new.page) - 1) in
    let low = level_room (node_in c.step_into.new.page) c.in_ok-step_into.ensures.visits.holds.level in
    let first = spends_add g.S.Counted g.S.HasRoom c.args.space.now c.step_into.new.pages c.insert_into.new.space 0 below INSERT_ROOM
    (omega (arith, low)) (spends_none g.S.Counted g.S.HasRoom c.args.space.now c.step_into.new.pages 0 same c.step_into.ensures.same.name
    c.step_into.ensures.same.frame) c.insert_into.ensures.spent in
    spends_add g.S.Counted g.S.HasRoom c.args.space.now c.insert_into.new.space c.update_page.new.space INSERT_ROOM 0 INSERT_ROOM (omega arith)
    first (spends_none g.S.Counted g.S.HasRoom c.insert_into.new.space c.update_page.new.space 0 kept c.update_page.ensures.stays.name
    c.update_page.ensures.stays.frame)

pub returns-in-Some-clause-done : goal.returns-in-Some-clause-done
returns-in-Some-clause-done g c =
    let e = c.args.element.now in
    let key = key_of e.base in
    let told = g.S.Pages.pages c.args.space.now in
    let before : Node = node_in c.step_into.new.page in
    let after : Node = node_in c.insert_into.new.page in
    let upper : Upper = upper_at c.in-Some.left (page_in c.insert_into.new.upper) in
    let grows = subst (λ (o : Option Base). Grows (inserted e) key (Writes (last_id e)) (λ x. IsNone x)
    (g.S.Pages.pages c.step_into.new.pages) (g.S.Pages.pages c.insert_into.new.space) before after (upper_of o (page_in c.insert_into.new.upper)))
    c.in-Some.is c.in_ok-changed.ensures.done.grows in
    let same = g.met.S.NodeSpace.rests c.args.space.now c.step_into.new.pages c.step_into.ensures.same.rest in
    let kept = g.met.S.NodeSpace.rests c.insert_into.new.space c.update_page.new.space c.update_page.ensures.rest in
    let read = kept_read g.S.Pages g.S.HasRoom c.args.space.now c.step_into.new.pages same.2 c.step_into.ensures.same.pages in
    let below = kept_both g.S.Pages g.S.HasRoom c.args.space.now c.step_into.new.pages c.insert_into.new.space read c.in_ok-changed.ensures.done.kept in
    let put = kept_both g.S.Pages g.S.HasRoom c.args.space.now c.insert_into.new.space c.update_page.new.space below
    (kept_change g.S.Pages g.S.HasRoom c.insert_into.new.space c.update_page.new.space
    (IsUpdated c.in_ok-changed.field-0.changed c.args.root after) kept.2 c.in_ok-update_page.ensures.ok) in
    let written = surely_written c.in_ok-changed.field-0.changed c.args.root after
    (g.S.Pages.pages c.insert_into.new.space) (g.S.Pages.pages c.update_page.new.space)
    (λ no. true≢false (subst (λ (o : Option Base). IsNone o) c.in-Some.is (c.in_ok-changed.ensures.done.same no).1))
    c.in_ok-update_page.ensures.ok in
    let added = subst (λ (page : List ℕ). IfOk c.add_root.result (AddsTop (λ s. g.S.Pages.pages s) (λ s. g.S.HasRoom.extents s)
    c.root-place.result after (upper_at c.in-Some.left page) c.update_page.new.space c.add_root.new.space))
    c.upper_page.ensures c.add_root.ensures.ok in
    inserts_from g.S.Pages g.S.HasRoom e c.args.space.now c.add_root.new.space c.args.root c.add_root.result
    (top_result g.S.Pages g.S.HasRoom (inserted e) key (Writes (last_id e)) c.args.root (λ o. IsNone o)
    told (g.S.Pages.pages c.step_into.new.pages) (g.S.Pages.pages c.insert_into.new.space)
    c.update_page.new.space c.add_root.new.space before after upper
    (λ old tree needs. element_inside c.args.root e c.requires.element.element c.known_range.ensures) c.step_into.ensures.same.pages
    (IfSome_then told (subst (λ (s : Subtree). IfSome told (λ map. PassesHere map s before)) c.root-place.ensures
    c.in_ok-step_into.ensures.visits.there) (λ map here. here.spelled)) grows written
    c.root-place.result c.add_root.result c.root-place.ensures added)
    (kept_then g.S.Pages g.S.HasRoom c.args.space.now c.update_page.new.space c.add_root.new.space c.add_root.result put
    (top_kept g.S.Pages g.S.HasRoom c.update_page.new.space c.add_root.new.space c.root-place.result after
    upper c.add_root.result added))

pub returns-in-Some-clause-spent : goal.returns-in-Some-clause-spent
returns-in-Some-clause-spent g c =
    let same = g.met.S.NodeSpace.rests c.args.space.now c.step_into.new.pages c.step_into.ensures.same.rest in
    let kept = g.met.S.NodeSpace.rests c.insert_into.new.space c.update_page.new.space c.update_page.ensures.rest in
    let below : ℕ = NODE_BYTES * (level_of (node_in c.step_into.new.page) - 1) in
    let low = level_room (node_in c.step_into.new.page) c.in_ok-step_into.ensures.visits.holds.level in
    let first = spends_add g.S.Counted g.S.HasRoom c.args.space.now c.step_into.new.pages c.insert_into.new.space 0 below below (omega arith)
    (spends_none g.S.Counted g.S.HasRoom c.args.space.now c.step_into.new.pages 0 same c.step_into.ensures.same.name c.step_into.ensures.same.frame)
    c.insert_into.ensures.spent in
    let second = spends_add g.S.Counted g.S.HasRoom c.args.space.now c.insert_into.new.space c.update_page.new.space below 0 below
    (omega arith) first (spends_none g.S.Counted g.S.HasRoom c.insert_into.new.space c.update_page.new.space 0 kept c.update_page.ensures.stays.name
    c.update_page.ensures.stays.frame) in
    spends_add g.S.Counted g.S.HasRoom c.args.space.now c.update_page.new.space c.add_root.new.space below (NODE_BYTES * 2) INSERT_ROOM
    (omega (arith, low)) second c.add_root.ensures.spent

pub returns-in_err-changed-clause-steps : goal.returns-in_err-changed-clause-steps
returns-in_err-changed-clause-steps g c =
    let most = level_most (node_in c.step_into.new.page) c.in_ok-step_into.ensures.visits.holds.level in
    omega (arith, c.step_into.ensures.step, c.insert_into.ensures.steps, most)

pub returns-in_err-update_page-clause-steps : goal.returns-in_err-update_page-clause-steps
returns-in_err-update_page-clause-steps g c =
    let most = level_most (node_in c.step_into.new.page) c.in_ok-step_into.ensures.visits.holds.level in
    omega (arith, c.step_into.ensures.step, c.insert_into.ensures.steps, most)

pub returns-in-None-clause-steps : goal.returns-in-None-clause-steps
returns-in-None-clause-steps g c =
    let most = level_most (node_in c.step_into.new.page) c.in_ok-step_into.ensures.visits.holds.level in
    omega (arith, c.step_into.ensures.step, c.insert_into.ensures.steps, most)

pub returns-in-Some-clause-steps : goal.returns-in-Some-clause-steps
returns-in-Some-clause-steps g c =
    let most = level_most (node_in c.step_into.new.page) c.in_ok-step_into.ensures.visits.holds.level in
    omega (arith, c.step_into.ensures.step, c.insert_into.ensures.steps, most)
