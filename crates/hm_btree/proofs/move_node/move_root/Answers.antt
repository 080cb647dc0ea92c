use Rattle.std.proofs.Common.{sym, subst, Result}
use Rattle.std.specs.Prelude.{IfSome}
use Rattle.std.proofs.lemmas.Option.{IfSome_then}
use Rattle.std.proofs.lemmas.Result.{err_from_is_err_and}
use Rattle.hm_types.specs.Faults.{HasFaultCause}
use Rattle.hm_types.specs.declared.fault.Fault.{Fault}
use Rattle.hm_key.specs.Key.{greatest_key}
use Rattle.hm_node.specs.Node.{node_in}
use Rattle.hm_search.specs.Descent.{PassesHere}
use Rattle.hm_search.specs.Tree.{node_at, height_of, IsStoredTree}
use Rattle.hm_search.specs.declared.subtree.Subtree.{Subtree}
use Rattle.hm_btree.specs.Space.{HasAdded, HasLost}
use Rattle.hm_btree.specs.declared.space.TheConstants.{NODE_BYTES}
use Rattle.hm_btree.proofs.ExchangeLemmas.{root_exchanged, root_moves, same_root}
use Rattle.hm_btree.proofs.InsertLemmas.{spends_none}
use Rattle.hm_btree.proofs.KeptLemmas.{kept_read, kept_change, kept_both}
use Rattle.hm_btree.proofs.NeighbourLemmas.{visited_cause}
use Rattle.hm_btree.proofs.move_node.move_root.Goals as goal

pub returns-in_err-visit-clause-spent : goal.returns-in_err-visit-clause-spent
returns-in_err-visit-clause-spent g c =
    let same = g.met.S.NodeSpace.rests c.args.space.now c.visit.new.pages c.visit.ensures.same.rest in
    spends_none g.S.Counted g.S.HasRoom c.args.space.now c.visit.new.pages NODE_BYTES same c.visit.ensures.same.name c.visit.ensures.same.frame

pub returns-in_err-visit-clause-cause : goal.returns-in_err-visit-clause-cause
returns-in_err-visit-clause-cause g c =
    let told = g.S.Pages.pages c.args.space.now in
    let old = g.S.Counted.faults c.args.space.now in
    let new = g.S.Counted.faults c.visit.new.pages in
    let p = err_from_is_err_and c.from_residual.result c.from_residual.ensures.1 in
    let whole = visited_cause told c.root-place.result old new c.in_err-visit.field-0.0
    (IfSome_then told c.requires.tree (λ map tree. (
      height_of (node_at map c.args.root),
      subst
          (λ (s : Subtree). IsStoredTree map (height_of (node_at map c.args.root)) s) (sym c.root-place.ensures) tree.sound,
    )))
    (subst (λ (r : Result (Unit {0}) Fault). HasFaultCause old new r) c.in_err-visit.was c.visit.ensures.cause)
    c.in_err-visit.ensures.damage in
    rw (p.1, p.2) whole

pub returns-clause-done : goal.returns-clause-done
returns-clause-done g c =
    let told = g.S.Pages.pages c.args.space.now in
    let read = g.S.Pages.pages c.visit.new.pages in
    let mid = g.S.Pages.pages c.add_page.new.space in
    let new = g.S.Pages.pages c.drop_node.new.self in
    let node = node_in c.visit.new.page in
    let added = c.in_ok-to.ensures.ok in
    let lost = c.in_ok-drop_node.ensures in
    let same = g.met.S.NodeSpace.rests c.args.space.now c.visit.new.pages c.visit.ensures.same.rest in
    record {
      key = greatest_key;
      top = same_root c.args.root c.in_ok-to.to;
      tree = root_moves c.args.root c.in_ok-to.to node greatest_key told read mid new c.visit.ensures.same.pages
          (IfSome_then told (subst (λ (s : Subtree). IfSome told (λ map. PassesHere map s node)) c.root-place.ensures c.in_ok-visit.ensures.visits.there)
          (λ map here. here.spelled)) added.spot added.told lost.ok;
      pages = root_exchanged c.args.root c.in_ok-to.to node told read mid new c.visit.ensures.same.pages added.spot added.told lost.ok;
      kept = kept_both g.S.Pages g.S.HasRoom c.args.space.now c.add_page.new.space c.drop_node.new.self
          (kept_both g.S.Pages g.S.HasRoom c.args.space.now c.visit.new.pages c.add_page.new.space
          (kept_read g.S.Pages g.S.HasRoom c.args.space.now c.visit.new.pages same.2 c.visit.ensures.same.pages)
          (kept_change g.S.Pages g.S.HasRoom c.visit.new.pages c.add_page.new.space (HasAdded c.in_ok-to.to node) added.extents added.told))
          (kept_change g.S.Pages g.S.HasRoom c.add_page.new.space c.drop_node.new.self (HasLost c.args.root) lost.extents lost.ok);
    }
