use Rattle.std.proofs.Common.{◌<◌, ℕ, subst, rules, Result, arith}
use Rattle.std.proofs.lemmas.Option.{IfSome_then}
use Rattle.std.proofs.lemmas.Result.{err_from_is_err_and, IfOk-weaker, on_ok_weaker}
use Rattle.hm_types.specs.Faults.{HasFaultCause}
use Rattle.hm_types.specs.declared.fault.Fault.{Fault}
use Rattle.hm_node.specs.Inner.{inner_in, IsNodeOffset}
use Rattle.hm_node.specs.Node.{level_of, node_in}
use Rattle.hm_node.proofs.ReadyLemmas.{inner_here}
use Rattle.hm_search.specs.declared.place_rule.PlaceRule.TheVariants.{Level}
use Rattle.hm_btree.specs.Calls.Remove.{FindsLowest}
use Rattle.hm_btree.specs.Space.{HasLost}
use Rattle.hm_btree.proofs.EditLemmas.{child_level_lower}
use Rattle.hm_btree.proofs.KeptLemmas.{kept_read, kept_change, kept_both}
use Rattle.hm_btree.proofs.LowestLemmas.{lowered_told, lowered_tree, lowered_then, lowered_read, only_long}
use Rattle.hm_btree.proofs.NeighbourLemmas.{visited_cause}
use Rattle.hm_btree.proofs.PageLemmas.{page_shaped}
use Rattle.hm_btree.proofs.ShapeLemmas.{child_offset}
use Rattle.hm_btree.proofs.SpendLemmas.{spends_nothing, spends_both}
use Rattle.hm_btree.proofs.InsertLemmas.{two_levels}
use Rattle.hm_btree.proofs.StepLemmas.{level_least}
use Rattle.hm_btree.proofs.top.+lowest.Goals as goal

pub returns-in_err-step_into-in-Some-clause-spent : goal.returns-in_err-step_into-in-Some-clause-spent
returns-in_err-step_into-in-Some-clause-spent g t c =
    let same = g.met.S.NodeSpace.rests c.args.space.now c.step_into.new.pages c.step_into.ensures.same.rest in
    spends_nothing g.S.Counted g.S.HasRoom c.args.space.now c.step_into.new.pages same c.step_into.ensures.same.name c.step_into.ensures.same.frame

pub returns-in_err-step_into-in-Some-clause-cause : goal.returns-in_err-step_into-in-Some-clause-cause
returns-in_err-step_into-in-Some-clause-cause g t c =
    let told = g.S.Pages.pages c.args.space.now in
    let old = g.S.Counted.faults c.args.space.now in
    let new = g.S.Counted.faults c.step_into.new.pages in
    let p = err_from_is_err_and c.from_residual.result c.from_residual.ensures.1 in
    let whole = visited_cause {T = ℕ} told c.in-Some.below old new c.in_err-step_into-in-Some.field-0.0
    (lowered_read told c.args.root (node_in c.args.page.now) (inner_in c.args.page.now) c.in-Some.below
    (inner_here c.args.page.now c.in-Some.ensures.one.inner) c.in-Some.ensures.one.at c.requires.tree c.requires.here)
    (subst (λ (r : Result (Unit {0}) Fault). HasFaultCause old new r) c.in_err-step_into-in-Some.was c.step_into.ensures.cause)
    c.in_err-step_into-in-Some.ensures.damage in
    rw (p.1, p.2) whole

pub returns-in_err-drop_node-in-Some-clause-spent : goal.returns-in_err-drop_node-in-Some-clause-spent
returns-in_err-drop_node-in-Some-clause-spent g t c =
    let same = g.met.S.NodeSpace.rests c.args.space.now c.step_into.new.pages c.step_into.ensures.same.rest in
    spends_both g.S.Counted g.S.HasRoom c.args.space.now c.step_into.new.pages c.drop_node.new.self
    (spends_nothing g.S.Counted g.S.HasRoom c.args.space.now c.step_into.new.pages same c.step_into.ensures.same.name c.step_into.ensures.same.frame)
    c.drop_node.ensures.spent

pub lowest-requires : goal.lowest-requires
lowest-requires g t c κs within =
    let smaller : level_of (node_in c.step_into.new.page) < level_of (node_in c.args.page.now) =
    child_level_lower (node_in c.args.page.now) (node_in c.step_into.new.page) (inner_in c.args.page.now) 0 c.in-Some.below
    (inner_here c.args.page.now c.in-Some.ensures.one.inner)
    c.in-Some.ensures.one.at (c.in_ok-step_into-in-Some.ensures.visits.meets Level) in
    let lowered = lowered_told (g.S.Pages.pages c.args.space.now) (g.S.Pages.pages c.step_into.new.pages)
    (g.S.Pages.pages c.drop_node.new.self) c.args.root (node_in c.args.page.now) (node_in c.step_into.new.page) (inner_in c.args.page.now) c.in-Some.below
    (inner_here c.args.page.now c.in-Some.ensures.one.inner) c.step_into.ensures.same.pages c.in_ok-drop_node-in-Some.ensures.ok
    (only_long c.args.page.now c.in-Some.below c.in-Some.ensures.one) c.in-Some.ensures.one.at c.requires.tree c.requires.here
    (IfSome_then (g.S.Pages.pages c.args.space.now) c.in_ok-step_into-in-Some.ensures.visits.there (λ map here. here.spelled)) in
    let both = lowered_tree (g.S.Pages.pages c.args.space.now) (g.S.Pages.pages c.step_into.new.pages)
    (g.S.Pages.pages c.drop_node.new.self) c.args.root (node_in c.args.page.now) (node_in c.step_into.new.page) (inner_in c.args.page.now) c.in-Some.below
    (inner_here c.args.page.now c.in-Some.ensures.one.inner) c.step_into.ensures.same.pages c.in_ok-drop_node-in-Some.ensures.ok lowered in
    let first = both.0 in
    let second = both.1 in
    let below : IsNodeOffset c.in-Some.below.at = child_offset (node_in c.args.page.now) (inner_in c.args.page.now) 0 c.in-Some.below
    (page_shaped c.args.page.now c.requires.holds) (inner_here c.args.page.now c.in-Some.ensures.one.inner) c.in-Some.ensures.one.at in
    search rules

pub returns-in_ok-drop_node-in-Some-clause-done : goal.returns-in_ok-drop_node-in-Some-clause-done
returns-in_ok-drop_node-in-Some-clause-done g t c =
    let p0 = g.S.Pages.pages c.args.space.now in
    let p1 = g.S.Pages.pages c.step_into.new.pages in
    let p2 = g.S.Pages.pages c.drop_node.new.self in
    let p3 = g.S.Pages.pages c.lowest.new.space in
    let same = g.met.S.NodeSpace.rests c.args.space.now c.step_into.new.pages c.step_into.ensures.same.rest in
    let read = kept_read g.S.Pages g.S.HasRoom c.args.space.now c.step_into.new.pages same.2 c.step_into.ensures.same.pages in
    let dropped = kept_both g.S.Pages g.S.HasRoom c.args.space.now c.step_into.new.pages c.drop_node.new.self read
    (kept_change g.S.Pages g.S.HasRoom c.step_into.new.pages c.drop_node.new.self (HasLost c.args.root)
    c.in_ok-drop_node-in-Some.ensures.extents c.in_ok-drop_node-in-Some.ensures.ok) in
    let lowered = lowered_told p0 p1 p2 c.args.root (node_in c.args.page.now) (node_in c.step_into.new.page) (inner_in c.args.page.now) c.in-Some.below
    (inner_here c.args.page.now c.in-Some.ensures.one.inner) c.step_into.ensures.same.pages c.in_ok-drop_node-in-Some.ensures.ok
    (only_long c.args.page.now c.in-Some.below c.in-Some.ensures.one) c.in-Some.ensures.one.at c.requires.tree c.requires.here
    (IfSome_then (g.S.Pages.pages c.args.space.now) c.in_ok-step_into-in-Some.ensures.visits.there (λ map here. here.spelled)) in
    IfOk-weaker c.lowest.result
    (FindsLowest (λ s. g.S.Pages.pages s) (λ s. g.S.HasRoom.extents s) c.in-Some.below.at c.lowest.new.page c.drop_node.new.self c.lowest.new.space)
    (FindsLowest (λ s. g.S.Pages.pages s) (λ s. g.S.HasRoom.extents s) c.args.root c.lowest.new.page c.args.space.now c.lowest.new.space)
    (λ found done. record {
      lowered = lowered_then p0 p1 p2 c.args.root (node_in c.args.page.now) (node_in c.step_into.new.page) (inner_in c.args.page.now)
          c.in-Some.below (inner_here c.args.page.now c.in-Some.ensures.one.inner) c.step_into.ensures.same.pages
          c.in_ok-drop_node-in-Some.ensures.ok p3 found (node_in c.lowest.new.page) lowered done.lowered;
      stands = done.stands;
      kept = kept_both g.S.Pages g.S.HasRoom c.args.space.now c.drop_node.new.self c.lowest.new.space dropped done.kept;
    }) c.lowest.ensures.done

pub returns-in_ok-drop_node-in-Some-clause-spent : goal.returns-in_ok-drop_node-in-Some-clause-spent
returns-in_ok-drop_node-in-Some-clause-spent g t c =
    let same = g.met.S.NodeSpace.rests c.args.space.now c.step_into.new.pages c.step_into.ensures.same.rest in
    let first = spends_both g.S.Counted g.S.HasRoom c.args.space.now c.step_into.new.pages c.drop_node.new.self
    (spends_nothing g.S.Counted g.S.HasRoom c.args.space.now c.step_into.new.pages same c.step_into.ensures.same.name c.step_into.ensures.same.frame)
    c.drop_node.ensures.spent in
    spends_both g.S.Counted g.S.HasRoom c.args.space.now c.drop_node.new.self c.lowest.new.space first c.lowest.ensures.spent

pub step_into-requires : goal.step_into-requires
step_into-requires g t c = child_offset (node_in c.args.page.now) (inner_in c.args.page.now) 0 c.in-Some.below
    (page_shaped c.args.page.now c.requires.holds) (inner_here c.args.page.now c.in-Some.ensures.one.inner) c.in-Some.ensures.one.at

pub returns-in-None-clause-steps : goal.returns-in-None-clause-steps
returns-in-None-clause-steps g t c =
    omega (arith, level_least (node_in c.args.page.now) c.requires.holds.level)

pub returns-in_err-step_into-in-Some-clause-steps : goal.returns-in_err-step_into-in-Some-clause-steps
returns-in_err-step_into-in-Some-clause-steps g t c =
    omega (
      arith,
      c.step_into.ensures.step,
      two_levels (node_in c.args.page.now) (inner_in c.args.page.now) c.requires.holds.level
          (inner_here c.args.page.now c.in-Some.ensures.one.inner),
    )

pub returns-in_err-drop_node-in-Some-clause-steps : goal.returns-in_err-drop_node-in-Some-clause-steps
returns-in_err-drop_node-in-Some-clause-steps g t c =
    let smaller = child_level_lower (node_in c.args.page.now) (node_in c.step_into.new.page) (inner_in c.args.page.now) 0 c.in-Some.below
    (inner_here c.args.page.now c.in-Some.ensures.one.inner) c.in-Some.ensures.one.at (c.in_ok-step_into-in-Some.ensures.visits.meets Level) in
    omega (arith, c.step_into.ensures.step, level_least (node_in c.step_into.new.page) c.in_ok-step_into-in-Some.ensures.visits.holds.level, smaller)

pub returns-in_ok-drop_node-in-Some-clause-steps : goal.returns-in_ok-drop_node-in-Some-clause-steps
returns-in_ok-drop_node-in-Some-clause-steps g t c =
    let smaller = child_level_lower (node_in c.args.page.now) (node_in c.step_into.new.page) (inner_in c.args.page.now) 0 c.in-Some.below
    (inner_here c.args.page.now c.in-Some.ensures.one.inner) c.in-Some.ensures.one.at (c.in_ok-step_into-in-Some.ensures.visits.meets Level) in
    omega (arith, c.step_into.ensures.step, c.lowest.ensures.steps, smaller)

pub returns-in_ok-drop_node-in-Some-clause-lower : goal.returns-in_ok-drop_node-in-Some-clause-lower
returns-in_ok-drop_node-in-Some-clause-lower g t c =
    let smaller = child_level_lower (node_in c.args.page.now) (node_in c.step_into.new.page) (inner_in c.args.page.now) 0 c.in-Some.below
    (inner_here c.args.page.now c.in-Some.ensures.one.inner) c.in-Some.ensures.one.at (c.in_ok-step_into-in-Some.ensures.visits.meets Level) in
    on_ok_weaker c.lowest.result (λ low. omega (arith, c.step_into.ensures.step, low, smaller)) c.lowest.ensures.lower
