use Rattle.std.proofs.Common.{ℕ, ap, subst, arith, Result, Err}
use Rattle.std.specs.Prelude.{IfSome}
use Rattle.std.proofs.lemmas.Option.{IfSome_then}
use Rattle.std.proofs.lemmas.Result.{err_from_is_err_and}
use Rattle.hm_types.specs.declared.fault.Fault.{Fault}
use Rattle.hm_types.specs.Faults.{HasFaultCause}
use Rattle.hm_key.specs.Key.{key_of}
use Rattle.hm_node.specs.Node.{node_in}
use Rattle.hm_node.specs.declared.node.Node.{Node}
use Rattle.hm_search.specs.Descent.{HasSearchCause, PassesHere}
use Rattle.hm_search.specs.declared.subtree.Subtree.{Subtree}
use Rattle.hm_search.proofs.DescentLemmas.{cause_here}
use Rattle.hm_btree.specs.Below.{HasPassCause}
use Rattle.hm_btree.specs.Marking.{Leaves}
use Rattle.hm_btree.specs.Space.{IsUpdated}
use Rattle.hm_btree.specs.declared.move_node.Moved.{Moved}
use Rattle.hm_btree.specs.declared.space.TheConstants.{NODE_BYTES}
use Rattle.hm_btree.proofs.ExchangeLemmas.{apart_root, inside_whole, tree_exchanged}
use Rattle.hm_btree.proofs.InsertLemmas.{spends_add, spends_none}
use Rattle.hm_btree.proofs.KeptLemmas.{kept_read, kept_change, kept_both}
use Rattle.hm_btree.proofs.PassLemmas.{place_cause_below}
use Rattle.hm_btree.proofs.RootLemmas.{root_works}
use Rattle.hm_btree.proofs.move_node.move_on_way.Goals as goal

pub returns-in_err-visit-clause-spent : goal.returns-in_err-visit-clause-spent
returns-in_err-visit-clause-spent g c =
    let same = g.met.S.NodeSpace.rests c.args.space.now c.visit.new.pages c.visit.ensures.same.rest in
    spends_none g.S.Counted g.S.HasRoom c.args.space.now c.visit.new.pages NODE_BYTES same c.visit.ensures.same.name c.visit.ensures.same.frame

pub returns-in_err-visit-clause-cause : goal.returns-in_err-visit-clause-cause
returns-in_err-visit-clause-cause g c =
    let told = g.S.Pages.pages c.args.space.now in
    let old = g.S.Counted.faults c.args.space.now in
    let new = g.S.Counted.faults c.visit.new.pages in
    let fault = c.in_err-visit.field-0.0 in
    let p = err_from_is_err_and c.from_residual.result c.from_residual.ensures.1 in
    let whole = cause_here {T = ℕ} told c.root-place.result old new fault
    (subst (λ (r : Result (Unit {0}) Fault). HasFaultCause old new r) c.in_err-visit.was c.visit.ensures.cause) c.in_err-visit.ensures.damage in
    rw (p.1, p.2) (subst (λ (s : Subtree). HasSearchCause {T = ℕ} told s old new (Err fault)) c.root-place.ensures whole)

pub returns-in_err-moved-clause-cause : goal.returns-in_err-moved-clause-cause
returns-in_err-moved-clause-cause g c =
    let told = g.S.Pages.pages c.args.space.now in
    let now = g.S.Pages.pages c.visit.new.pages in
    let old = g.S.Counted.faults c.args.space.now in
    let mid = g.S.Counted.faults c.visit.new.pages in
    let new = g.S.Counted.faults c.move_below.new.space in
    let node : Node = node_in c.visit.new.page in
    let fault = c.in_err-moved.field-0.0 in
    let p = err_from_is_err_and c.from_residual-in_err-moved.result c.from_residual-in_err-moved.ensures.1 in
    let whole = place_cause_below {U = ℕ} told now c.root-place.result node old mid new fault
    c.visit.ensures.same.pages c.visit.ensures.cause.never_falls c.in_ok-visit.ensures.visits.there
    (subst (λ (r : Result Moved Fault). HasPassCause now node mid new r) c.in_err-moved.was c.move_below.ensures.cause) in
    rw (p.1, p.2) (subst (λ (s : Subtree). HasSearchCause {T = ℕ} told s old new (Err fault)) c.root-place.ensures whole)

pub returns-in_err-update_page-clause-spent : goal.returns-in_err-update_page-clause-spent
returns-in_err-update_page-clause-spent g c =
    let same = g.met.S.NodeSpace.rests c.args.space.now c.visit.new.pages c.visit.ensures.same.rest in
    let kept = g.met.S.NodeSpace.rests c.move_below.new.space c.update_page.new.space c.update_page.ensures.rest in
    let first = spends_add g.S.Counted g.S.HasRoom c.args.space.now c.visit.new.pages c.move_below.new.space 0 NODE_BYTES NODE_BYTES (omega arith)
    (spends_none g.S.Counted g.S.HasRoom c.args.space.now c.visit.new.pages 0 same c.visit.ensures.same.name c.visit.ensures.same.frame)
    c.move_below.ensures.spent in
    spends_add g.S.Counted g.S.HasRoom c.args.space.now c.move_below.new.space c.update_page.new.space NODE_BYTES 0 NODE_BYTES (omega arith) first
    (spends_none g.S.Counted g.S.HasRoom c.move_below.new.space c.update_page.new.space 0 kept c.update_page.ensures.stays.name
    c.update_page.ensures.stays.frame)

pub returns-clause-spent : goal.returns-clause-spent
returns-clause-spent g c =
    let same = g.met.S.NodeSpace.rests c.args.space.now c.visit.new.pages c.visit.ensures.same.rest in
    let kept = g.met.S.NodeSpace.rests c.move_below.new.space c.update_page.new.space c.update_page.ensures.rest in
    let first = spends_add g.S.Counted g.S.HasRoom c.args.space.now c.visit.new.pages c.move_below.new.space 0 NODE_BYTES NODE_BYTES (omega arith)
    (spends_none g.S.Counted g.S.HasRoom c.args.space.now c.visit.new.pages 0 same c.visit.ensures.same.name c.visit.ensures.same.frame)
    c.move_below.ensures.spent in
    spends_add g.S.Counted g.S.HasRoom c.args.space.now c.move_below.new.space c.update_page.new.space NODE_BYTES 0 NODE_BYTES (omega arith) first
    (spends_none g.S.Counted g.S.HasRoom c.move_below.new.space c.update_page.new.space 0 kept c.update_page.ensures.stays.name
    c.update_page.ensures.stays.frame)

pub returns-clause-done : goal.returns-clause-done
returns-clause-done g c =
    let key = key_of c.args.key.now in
    let told = g.S.Pages.pages c.args.space.now in
    let read = g.S.Pages.pages c.visit.new.pages in
    let mid = g.S.Pages.pages c.move_below.new.space in
    let last = g.S.Pages.pages c.update_page.new.space in
    let before : Node = node_in c.visit.new.page in
    let after : Node = node_in c.move_below.new.page in
    let moved = c.in_ok-moved.moved in
    let did = c.in_ok-moved.ensures.done in
    let here = IfSome_then told (subst (λ (s : Subtree). IfSome told (λ map. PassesHere map s before)) c.root-place.ensures
    c.in_ok-visit.ensures.visits.there) (λ map here. here.spelled) in
    let same = g.met.S.NodeSpace.rests c.args.space.now c.visit.new.pages c.visit.ensures.same.rest in
    let kept = g.met.S.NodeSpace.rests c.move_below.new.space c.update_page.new.space c.update_page.ensures.rest in
    record {
      key = key;
      top = apart_root c.args.at c.args.root moved.to c.requires.below;
      tree = root_works (λ es. es) key Leaves c.args.root (λ _. Unit {0}) told read mid last before after moved.changed (λ no. ap node_in (did.same no))
          (λ old tree needs. inside_whole c.args.root key c.requires.key) c.visit.ensures.same.pages here did.works c.in_ok-update_page.ensures.ok;
      pages = tree_exchanged c.args.root moved.to before c.args.at moved.changed after told read mid last c.visit.ensures.same.pages c.requires.below
          here did.pages c.in_ok-update_page.ensures.ok;
      kept = kept_both g.S.Pages g.S.HasRoom c.args.space.now c.move_below.new.space c.update_page.new.space
          (kept_both g.S.Pages g.S.HasRoom c.args.space.now c.visit.new.pages c.move_below.new.space
          (kept_read g.S.Pages g.S.HasRoom c.args.space.now c.visit.new.pages same.2 c.visit.ensures.same.pages) did.kept)
          (kept_change g.S.Pages g.S.HasRoom c.move_below.new.space c.update_page.new.space
          (IsUpdated moved.changed c.args.root after) kept.2 c.in_ok-update_page.ensures.ok);
    }
