use Rattle.std.proofs.Common.{◌∙◌, ◌<◌, Bool, ap, refl, sym, subst, rules, arith, Result}
use Rattle.std.specs.Prelude.{Option, IsSome, is_some}
use Rattle.std.proofs.lemmas.Option.{IfSome_then}
use Rattle.std.proofs.lemmas.Result.{err_from_is_err_and}
use Rattle.hm_types.specs.declared.fault.Fault.{Fault}
use Rattle.hm_types.specs.Faults.{HasFaultCause, HasStoreCause}
use Rattle.hm_fields.specs.Pages.{PageMap}
use Rattle.hm_key.specs.Key.{key_of}
use Rattle.hm_node.specs.Head.{head_in}
use Rattle.hm_node.specs.Inner.{inner_in}
use Rattle.hm_node.specs.Node.{level_of, node_in}
use Rattle.hm_node.specs.declared.node.Node.{Node}
use Rattle.hm_node.proofs.ReadyLemmas.{leaf_there, inner_there, inner_here}
use Rattle.hm_search.specs.declared.place_rule.PlaceRule.TheVariants.{Level}
use Rattle.hm_btree.specs.Below.{HasPassCause, Works}
use Rattle.hm_btree.specs.Change.{change_of, with_change, marking_of}
use Rattle.hm_btree.specs.Space.{IsUpdated}
use Rattle.hm_btree.proofs.EditLemmas.{child_level_lower}
use Rattle.hm_btree.proofs.LocalLemmas.{changed_local}
use Rattle.hm_btree.proofs.PageLemmas.{page_shaped}
use Rattle.hm_btree.proofs.PassLemmas.{pass_cause_read, pass_cause_below, pass_cause_write}
use Rattle.hm_btree.proofs.ShapeLemmas.{child_offset}
use Rattle.hm_btree.proofs.ToldLemmas.{both_alike}
use Rattle.hm_btree.proofs.WorksLemmas.{inner_works, leaf_changes}
use Rattle.hm_btree.proofs.InsertLemmas.{two_levels}
use Rattle.hm_btree.proofs.StepLemmas.{level_least}
use Rattle.hm_btree.proofs.change.+change_in.Goals as goal

pub returns-in_err-step_into-clause-cause : goal.returns-in_err-step_into-clause-cause
returns-in_err-step_into-clause-cause g t c =
    let fault = c.in_err-step_into.field-0.0 in
    let told = g.S.Pages.pages c.args.space.now in
    let old = g.S.Counted.faults c.args.space.now in
    let new = g.S.Counted.faults c.step_into.new.pages in
    let p = err_from_is_err_and c.from_residual.result c.from_residual.ensures.1 in
    let whole = pass_cause_read {T = Bool} told (node_in c.args.page.now)
    (inner_in c.args.page.now) c.holder_place_in-i.result c.child_below-place.result old new fault
    (inner_there c.args.page.now c.read.result c.read.ensures.value c.if-read-eq-LEAF.false) c.child_below-place.ensures
    (subst (λ (r : Result (Unit {0}) Fault). HasFaultCause old new r) c.in_err-step_into.was c.step_into.ensures.cause)
    c.in_err-step_into.ensures.damage in
    rw (p.1, p.2) whole

pub change_in-requires : goal.change_in-requires
change_in-requires g t c κs within =
    let smaller : level_of (node_in c.step_into.new.page) < level_of (node_in c.args.page.now) =
    child_level_lower (node_in c.args.page.now) (node_in c.step_into.new.page) (inner_in c.args.page.now) c.holder_place_in-i.result c.child_below-place.result
    (inner_there c.args.page.now c.read.result c.read.ensures.value c.if-read-eq-LEAF.false) c.child_below-place.ensures
    (c.in_ok-step_into.ensures.visits.meets Level) in
    search rules

pub returns-in_err-changed-clause-cause : goal.returns-in_err-changed-clause-cause
returns-in_err-changed-clause-cause g t c =
    let fault = c.in_err-changed.field-0.0 in
    let told = g.S.Pages.pages c.args.space.now in
    let now = g.S.Pages.pages c.step_into.new.pages in
    let old = g.S.Counted.faults c.args.space.now in
    let mid = g.S.Counted.faults c.step_into.new.pages in
    let new = g.S.Counted.faults c.change_in.new.space in
    let p = err_from_is_err_and c.from_residual-in_err-changed.result c.from_residual-in_err-changed.ensures.1 in
    let whole = pass_cause_below told now (node_in c.args.page.now) (node_in c.step_into.new.page) (inner_in c.args.page.now) c.holder_place_in-i.result
    c.child_below-place.result old mid new fault
    (inner_there c.args.page.now c.read.result c.read.ensures.value c.if-read-eq-LEAF.false) c.child_below-place.ensures
    c.step_into.ensures.same.pages c.step_into.ensures.cause.never_falls c.in_ok-step_into.ensures.visits.there
    (subst (λ (r : Result Bool Fault). HasPassCause now (node_in c.step_into.new.page) mid new r)
    c.in_err-changed.was c.change_in.ensures.cause) in
    rw (p.1, p.2) whole

pub update_page-requires-clause-at : goal.update_page-requires-clause-at
update_page-requires-clause-at g t c = child_offset (node_in c.args.page.now) (inner_in c.args.page.now) c.holder_place_in-i.result c.child_below-place.result
    (page_shaped c.args.page.now c.requires.node)
    (inner_there c.args.page.now c.read.result c.read.ensures.value c.if-read-eq-LEAF.false) c.child_below-place.ensures

pub returns-in_err-update_page-clause-cause : goal.returns-in_err-update_page-clause-cause
returns-in_err-update_page-clause-cause g t c =
    let told = g.S.Pages.pages c.args.space.now in
    let mid = g.S.Pages.pages c.change_in.new.space in
    let old = g.S.Counted.faults c.args.space.now in
    let middle = g.S.Counted.faults c.change_in.new.space in
    let new = g.S.Counted.faults c.update_page.new.space in
    let p = err_from_is_err_and c.from_residual-in_err-update_page.result c.from_residual-in_err-update_page.ensures.1 in
    let whole = pass_cause_write {T = Bool} told mid (node_in c.args.page.now) old middle new c.in_err-update_page.field-0.0
    (c.in_ok-changed.ensures.done.told ∙ ap (λ (o : Option PageMap). is_some o) c.step_into.ensures.same.pages)
    (omega (arith, c.step_into.ensures.cause.never_falls, c.change_in.ensures.cause.counted.never_falls))
    (subst (λ (r : Result (Unit {0}) Fault). HasStoreCause mid middle new r) c.in_err-update_page.was c.update_page.ensures.cause) in
    rw (p.1, p.2) whole

pub step_into-requires : goal.step_into-requires
step_into-requires g t c = child_offset (node_in c.args.page.now) (inner_in c.args.page.now) c.holder_place_in-i.result c.child_below-place.result
    (page_shaped c.args.page.now c.requires.node)
    (inner_there c.args.page.now c.read.result c.read.ensures.value c.if-read-eq-LEAF.false) c.child_below-place.ensures

pub returns-then-read-eq-LEAF-clause-done : goal.returns-then-read-eq-LEAF-clause-done
returns-then-read-eq-LEAF-clause-done g t c =
    let key = key_of c.args.at.now in
    let old = c.args.page.now in
    let new = c.change_in_leaf.new.page in
    let told = g.S.Pages.pages c.args.space.now in
    let did = c.change_in_leaf.ensures in
    let is = leaf_there old c.read.result c.read.ensures.value c.if-read-eq-LEAF.true in
    let now = leaf_there new (head_in new) refl did.held.kind in
    record {
      works = leaf_changes key c.args.change c.change_in_leaf.result old new told c.requires.may is now did;
      holds = did.held.holds;
      told = refl;
      same = did.same;
    }

pub returns-clause-done : goal.returns-clause-done
returns-clause-done g t c =
    let key = key_of c.args.at.now in
    let old = c.args.page.now in
    let new = c.set_mirror.new.page in
    let before : Node = node_in c.step_into.new.page in
    let after : Node = node_in c.change_in.new.page in
    let told = g.S.Pages.pages c.args.space.now in
    let set = c.set_mirror.ensures in
    let works = inner_works (with_change key c.args.change) key (marking_of c.args.change) (λ o. IsSome o)
    (changed_local key (change_of c.args.change)) (inner_in old) (inner_in new)
    c.holder_place_in-i.result c.child_below-place.result before after c.mirror_in.result c.in_ok-changed.changed
    (λ no. ap node_in (c.in_ok-changed.ensures.done.same no)) (node_in old)
    told (g.S.Pages.pages c.step_into.new.pages) (g.S.Pages.pages c.change_in.new.space) (g.S.Pages.pages c.update_page.new.space)
    (inner_there old c.read.result c.read.ensures.value c.if-read-eq-LEAF.false) c.holder_place_in-i.ensures.ordered c.child_below-place.ensures
    c.step_into.ensures.same.pages (IfSome_then told c.in_ok-step_into.ensures.visits.there (λ map here. here.spelled))
    c.in_ok-changed.ensures.done.works c.in_ok-update_page.ensures.ok set.level set.mirror c.mirror_in.ensures set.items set.right in
    record {
      works = subst (λ (n : Node). Works (with_change key c.args.change) key (marking_of c.args.change) (λ o. IsSome o) told
          (g.S.Pages.pages c.update_page.new.space) (node_in old) n) (sym (inner_here new set.held)) works;
      holds = set.held.holds;
      told = both_alike (g.S.Pages.pages c.change_in.new.space) (g.S.Pages.pages c.update_page.new.space)
          (IsUpdated c.in_ok-changed.changed c.child_below-place.result.at after) c.in_ok-update_page.ensures.ok
          ∙ c.in_ok-changed.ensures.done.told ∙ ap (λ (o : Option PageMap). is_some o) c.step_into.ensures.same.pages;
      same = set.same;
    }

pub returns-then-read-eq-LEAF-clause-steps : goal.returns-then-read-eq-LEAF-clause-steps
returns-then-read-eq-LEAF-clause-steps g t c =
    omega (arith, level_least (node_in c.args.page.now) c.requires.node.level)

pub returns-in_err-step_into-clause-steps : goal.returns-in_err-step_into-clause-steps
returns-in_err-step_into-clause-steps g t c =
    omega (
      arith,
      c.step_into.ensures.step,
      two_levels (node_in c.args.page.now) (inner_in c.args.page.now) c.requires.node.level
          (inner_there c.args.page.now c.read.result c.read.ensures.value c.if-read-eq-LEAF.false),
    )

pub returns-in_err-changed-clause-steps : goal.returns-in_err-changed-clause-steps
returns-in_err-changed-clause-steps g t c =
    let smaller = child_level_lower (node_in c.args.page.now) (node_in c.step_into.new.page) (inner_in c.args.page.now) c.holder_place_in-i.result
    c.child_below-place.result (inner_there c.args.page.now c.read.result c.read.ensures.value c.if-read-eq-LEAF.false) c.child_below-place.ensures
    (c.in_ok-step_into.ensures.visits.meets Level) in
    omega (arith, c.step_into.ensures.step, c.change_in.ensures.steps, smaller)

pub returns-in_err-update_page-clause-steps : goal.returns-in_err-update_page-clause-steps
returns-in_err-update_page-clause-steps g t c =
    let smaller = child_level_lower (node_in c.args.page.now) (node_in c.step_into.new.page) (inner_in c.args.page.now) c.holder_place_in-i.result
    c.child_below-place.result (inner_there c.args.page.now c.read.result c.read.ensures.value c.if-read-eq-LEAF.false) c.child_below-place.ensures
    (c.in_ok-step_into.ensures.visits.meets Level) in
    omega (arith, c.step_into.ensures.step, c.change_in.ensures.steps, smaller)

pub returns-clause-steps : goal.returns-clause-steps
returns-clause-steps g t c =
    let smaller = child_level_lower (node_in c.args.page.now) (node_in c.step_into.new.page) (inner_in c.args.page.now) c.holder_place_in-i.result
    c.child_below-place.result (inner_there c.args.page.now c.read.result c.read.ensures.value c.if-read-eq-LEAF.false) c.child_below-place.ensures
    (c.in_ok-step_into.ensures.visits.meets Level) in
    omega (arith, c.step_into.ensures.step, c.change_in.ensures.steps, smaller)
