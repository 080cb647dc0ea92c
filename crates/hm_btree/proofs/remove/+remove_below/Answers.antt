use Rattle.std.proofs.Common.{◌∙◌, ◌+◌, ◌<◌, ℕ, true≢false, ap, refl, sym, subst, rules, arith, Result}
use Rattle.std.specs.Prelude.{IsSome}
use Rattle.std.proofs.lemmas.Option.{IfSome_then}
use Rattle.std.proofs.lemmas.Result.{err_from_is_err_and}
use Rattle.hm_types.specs.Faults.{HasFaultCause}
use Rattle.hm_types.specs.declared.fault.Fault.{Fault}
use Rattle.hm_key.specs.Elements.{removed}
use Rattle.hm_key.specs.Key.{key_of}
use Rattle.hm_node.specs.Head.{head_in}
use Rattle.hm_node.specs.Inner.{child_in, inner_in}
use Rattle.hm_node.specs.Node.{level_of, count_of, node_in}
use Rattle.hm_node.specs.Places.{place}
use Rattle.hm_node.specs.declared.node.Node.{Node}
use Rattle.hm_node.proofs.PlaceLemmas.{first_length}
use Rattle.hm_node.proofs.ReadyLemmas.{leaf_there, inner_there, inner_here, inner_page}
use Rattle.hm_search.specs.declared.place_rule.PlaceRule.TheVariants.{Level, Count}
use Rattle.hm_btree.specs.Marking.{TakesOut}
use Rattle.hm_btree.specs.Shape.{IsShaped}
use Rattle.hm_btree.specs.Shrink.{HasNeighbours, Shrinks}
use Rattle.hm_btree.specs.Space.{IsUpdated}
use Rattle.hm_btree.proofs.EditLemmas.{child_level, child_level_lower}
use Rattle.hm_btree.proofs.HoldsLemmas.{holds_below, holds_read, neighbours_below, shrunk_told}
use Rattle.hm_btree.proofs.KeptLemmas.{kept_read, kept_change, kept_both}
use Rattle.hm_btree.proofs.LocalLemmas.{removed_local}
use Rattle.hm_btree.proofs.NeighbourLemmas.{visited_cause}
use Rattle.hm_btree.proofs.PageLemmas.{page_shaped}
use Rattle.hm_btree.proofs.ShapeLemmas.{child_offset}
use Rattle.hm_btree.proofs.ShrinksLemmas.{small_shrinks, large_shrinks, leaf_removes, not_small}
use Rattle.hm_btree.proofs.SpendLemmas.{spends_nothing, spends_both}
use Rattle.hm_btree.proofs.InsertLemmas.{two_levels}
use Rattle.hm_btree.proofs.StepLemmas.{level_least}
use Rattle.hm_btree.proofs.remove.+remove_below.Goals as goal

pub returns-in_err-step_into-clause-spent : goal.returns-in_err-step_into-clause-spent
returns-in_err-step_into-clause-spent g t c =
    let same = g.met.S.NodeSpace.rests c.args.space.now c.step_into.new.pages c.step_into.ensures.same.rest in
    spends_nothing g.S.Counted g.S.HasRoom c.args.space.now c.step_into.new.pages same c.step_into.ensures.same.name c.step_into.ensures.same.frame

pub returns-in_err-step_into-clause-cause : goal.returns-in_err-step_into-clause-cause
returns-in_err-step_into-clause-cause g t c =
    let told = g.S.Pages.pages c.args.space.now in
    let old = g.S.Counted.faults c.args.space.now in
    let new = g.S.Counted.faults c.step_into.new.pages in
    let p = err_from_is_err_and c.from_residual.result c.from_residual.ensures.1 in
    let whole = visited_cause told c.child_below-place.result old new c.in_err-step_into.field-0.0
    (holds_read (key_of c.args.at.now) (inner_in c.args.page.now) c.holder_place_in-i.result c.child_below-place.result (node_in c.args.page.now) told
    (inner_there c.args.page.now c.read.result c.read.ensures.value c.if-read-eq-LEAF.false) c.child_below-place.ensures c.requires.told)
    (subst (λ (r : Result (Unit {0}) Fault). HasFaultCause old new r) c.in_err-step_into.was c.step_into.ensures.cause)
    c.in_err-step_into.ensures.damage in
    rw (p.1, p.2) whole

pub remove_below-requires : goal.remove_below-requires
remove_below-requires g t c κs within =
    let smaller : level_of (node_in c.step_into.new.page) < level_of (node_in c.args.page.now) =
    child_level_lower (node_in c.args.page.now) (node_in c.step_into.new.page) (inner_in c.args.page.now) c.holder_place_in-i.result c.child_below-place.result
    (inner_there c.args.page.now c.read.result c.read.ensures.value c.if-read-eq-LEAF.false) c.child_below-place.ensures
    (c.in_ok-step_into.ensures.visits.meets Level) in
    let many : HasNeighbours (node_in c.step_into.new.page) = neighbours_below (inner_in c.args.page.now) c.holder_place_in-i.result
    c.child_below-place.result (node_in c.step_into.new.page) c.child_below-place.ensures (c.in_ok-step_into.ensures.visits.meets Count) in
    let holds = holds_below (key_of c.args.at.now) (inner_in c.args.page.now) c.holder_place_in-i.result c.child_below-place.result
    (node_in c.step_into.new.page) c.holder_place_in-i.ensures.ordered c.child_below-place.ensures
    (node_in c.args.page.now) (g.S.Pages.pages c.args.space.now) (g.S.Pages.pages c.step_into.new.pages)
    (inner_there c.args.page.now c.read.result c.read.ensures.value c.if-read-eq-LEAF.false)
    c.step_into.ensures.same.pages c.requires.told
    (IfSome_then (g.S.Pages.pages c.args.space.now) c.in_ok-step_into.ensures.visits.there (λ map here. here.spelled)) in
    search rules

pub returns-in_err-changed-clause-spent : goal.returns-in_err-changed-clause-spent
returns-in_err-changed-clause-spent g t c =
    let same = g.met.S.NodeSpace.rests c.args.space.now c.step_into.new.pages c.step_into.ensures.same.rest in
    spends_both g.S.Counted g.S.HasRoom c.args.space.now c.step_into.new.pages c.remove_below.new.space
    (spends_nothing g.S.Counted g.S.HasRoom c.args.space.now c.step_into.new.pages same c.step_into.ensures.same.name c.step_into.ensures.same.frame)
    c.remove_below.ensures.spent

pub rejoin_in-requires-clause-told : goal.rejoin_in-requires-clause-told
rejoin_in-requires-clause-told g t c =
    let key = key_of c.args.at.now in
    shrunk_told key (inner_in c.args.page.now) c.holder_place_in-i.result c.child_below-place.result
    (node_in c.step_into.new.page) c.holder_place_in-i.ensures.ordered c.child_below-place.ensures
    (node_in c.args.page.now) (g.S.Pages.pages c.args.space.now) (g.S.Pages.pages c.step_into.new.pages)
    (inner_there c.args.page.now c.read.result c.read.ensures.value c.if-read-eq-LEAF.false)
    c.step_into.ensures.same.pages (removed key) (g.S.Pages.pages c.remove_below.new.space) (node_in c.remove_below.new.page)
    (removed_local key) c.requires.told (IfSome_then (g.S.Pages.pages c.args.space.now) c.in_ok-step_into.ensures.visits.there (λ map here. here.spelled))
    c.in_ok-changed.ensures.done.shrinks
    c.in_ok-changed.ensures.done.kept.told

pub returns-then-is_small_in-clause-spent : goal.returns-then-is_small_in-clause-spent
returns-then-is_small_in-clause-spent g t c =
    let same = g.met.S.NodeSpace.rests c.args.space.now c.step_into.new.pages c.step_into.ensures.same.rest in
    let first = spends_both g.S.Counted g.S.HasRoom c.args.space.now c.step_into.new.pages c.remove_below.new.space
    (spends_nothing g.S.Counted g.S.HasRoom c.args.space.now c.step_into.new.pages same c.step_into.ensures.same.name c.step_into.ensures.same.frame)
    c.remove_below.ensures.spent in
    spends_both g.S.Counted g.S.HasRoom c.args.space.now c.remove_below.new.space c.rejoin_in.new.space first c.rejoin_in.ensures.spent

pub returns-in_err-rejoin_in-clause-spent : goal.returns-in_err-rejoin_in-clause-spent
returns-in_err-rejoin_in-clause-spent g t c =
    let same = g.met.S.NodeSpace.rests c.args.space.now c.step_into.new.pages c.step_into.ensures.same.rest in
    let first = spends_both g.S.Counted g.S.HasRoom c.args.space.now c.step_into.new.pages c.remove_below.new.space
    (spends_nothing g.S.Counted g.S.HasRoom c.args.space.now c.step_into.new.pages same c.step_into.ensures.same.name c.step_into.ensures.same.frame)
    c.remove_below.ensures.spent in
    spends_both g.S.Counted g.S.HasRoom c.args.space.now c.remove_below.new.space c.rejoin_in.new.space first c.rejoin_in.ensures.spent

pub returns-in_err-update_page-clause-spent : goal.returns-in_err-update_page-clause-spent
returns-in_err-update_page-clause-spent g t c =
    let same = g.met.S.NodeSpace.rests c.args.space.now c.step_into.new.pages c.step_into.ensures.same.rest in
    let kept = g.met.S.NodeSpace.rests c.remove_below.new.space c.update_page.new.space c.update_page.ensures.rest in
    let first = spends_both g.S.Counted g.S.HasRoom c.args.space.now c.step_into.new.pages c.remove_below.new.space
    (spends_nothing g.S.Counted g.S.HasRoom c.args.space.now c.step_into.new.pages same c.step_into.ensures.same.name c.step_into.ensures.same.frame)
    c.remove_below.ensures.spent in
    spends_both g.S.Counted g.S.HasRoom c.args.space.now c.remove_below.new.space c.update_page.new.space first
    (spends_nothing g.S.Counted g.S.HasRoom c.remove_below.new.space c.update_page.new.space kept c.update_page.ensures.stays.name
    c.update_page.ensures.stays.frame)

pub update_page-requires-clause-at : goal.update_page-requires-clause-at
update_page-requires-clause-at g t c = child_offset (node_in c.args.page.now) (inner_in c.args.page.now) c.holder_place_in-i.result c.child_below-place.result
    (page_shaped c.args.page.now c.requires.node)
    (inner_there c.args.page.now c.read.result c.read.ensures.value c.if-read-eq-LEAF.false) c.child_below-place.ensures

pub step_into-requires : goal.step_into-requires
step_into-requires g t c = child_offset (node_in c.args.page.now) (inner_in c.args.page.now) c.holder_place_in-i.result c.child_below-place.result
    (page_shaped c.args.page.now c.requires.node)
    (inner_there c.args.page.now c.read.result c.read.ensures.value c.if-read-eq-LEAF.false) c.child_below-place.ensures

pub rejoin_in-requires-clause-may : goal.rejoin_in-requires-clause-may
rejoin_in-requires-clause-may g t c =
    let old = c.args.page.now in
    let child : Node = node_in c.step_into.new.page in
    let is = inner_there old c.read.result c.read.ensures.value c.if-read-eq-LEAF.false in
    record {
      inner = inner_page old c.read.result c.read.ensures.value c.if-read-eq-LEAF.false c.requires.node;
      pair = record {
        shape = subst (λ (n : Node). IsShaped n) is (page_shaped old c.requires.node);
        within = omega (arith, c.holder_place_in-i.ensures.within, first_length (λ i. child_in old (place i)) (head_in old).count);
        many = subst (λ (n : Node). HasNeighbours n) is c.requires.many;
      };
      holds = c.in_ok-changed.ensures.done.holds;
      level = ap (λ (n : ℕ). n + 1) c.in_ok-changed.ensures.done.level
          ∙ child_level (inner_in old) c.holder_place_in-i.result c.child_below-place.result child c.child_below-place.ensures
          (c.in_ok-step_into.ensures.visits.meets Level);
    }

pub returns-then-read-eq-LEAF-clause-done : goal.returns-then-read-eq-LEAF-clause-done
returns-then-read-eq-LEAF-clause-done g t c =
    let old = c.args.page.now in
    let new = c.remove_in_leaf.new.page in
    let did = c.remove_in_leaf.ensures in
    let is = leaf_there old c.read.result c.read.ensures.value c.if-read-eq-LEAF.true in
    let now = leaf_there new (head_in new) refl did.held.kind in
    record {
      shrinks = leaf_removes (key_of c.args.at.now) c.remove_in_leaf.result old new (g.S.Pages.pages c.args.space.now) is now did;
      holds = did.held.holds;
      level = ap level_of now ∙ sym (ap level_of is);
      kept = record { told = refl; extents = refl };
      same = did.same;
    }

pub returns-then-is_small_in-clause-done : goal.returns-then-is_small_in-clause-done
returns-then-is_small_in-clause-done g t c =
    let key = key_of c.args.at.now in
    let old = c.args.page.now in
    let before : Node = node_in c.step_into.new.page in
    let after : Node = node_in c.remove_below.new.page in
    let told = g.S.Pages.pages c.args.space.now in
    let is = inner_there old c.read.result c.read.ensures.value c.if-read-eq-LEAF.false in
    let here = IfSome_then told c.in_ok-step_into.ensures.visits.there (λ map here. here.spelled) in
    let new = c.rejoin_in.new.page in
    let same = g.met.S.NodeSpace.rests c.args.space.now c.step_into.new.pages c.step_into.ensures.same.rest in
    let read = kept_read g.S.Pages g.S.HasRoom c.args.space.now c.step_into.new.pages same.2 c.step_into.ensures.same.pages in
    let below = kept_both g.S.Pages g.S.HasRoom c.args.space.now c.step_into.new.pages c.remove_below.new.space read
    c.in_ok-changed.ensures.done.kept in
    let done = c.in_ok-rejoin_in.ensures.done in
    let now = inner_here new done.held in
    let shrinks = small_shrinks (removed key) key (removed_local key) (inner_in old) (inner_in new) c.holder_place_in-i.result
    c.child_below-place.result before after c.holder_place_in-i.ensures.ordered c.child_below-place.ensures
    (node_in old) told (g.S.Pages.pages c.step_into.new.pages)
    (g.S.Pages.pages c.remove_below.new.space) (g.S.Pages.pages c.rejoin_in.new.space) is c.step_into.ensures.same.pages
    here c.in_ok-changed.ensures.done.shrinks c.in_ok-changed.ensures.done.kept.told
    (c.is_small_in.ensures.0 c.if-is_small_in.true) done.joins.joined in
    record {
      shrinks = subst (λ (n : Node). Shrinks (removed key) key TakesOut (λ o. IsSome o) told (g.S.Pages.pages c.rejoin_in.new.space) (node_in old) n)
          (sym now) shrinks;
      holds = done.held.holds;
      level = ap level_of now ∙ done.joins.shape.level ∙ sym (ap level_of is);
      kept = kept_both g.S.Pages g.S.HasRoom c.args.space.now c.remove_below.new.space c.rejoin_in.new.space below done.joins.kept;
      same = λ no. absurd (true≢false no);
    }

pub returns-clause-done : goal.returns-clause-done
returns-clause-done g t c =
    let key = key_of c.args.at.now in
    let old = c.args.page.now in
    let before : Node = node_in c.step_into.new.page in
    let after : Node = node_in c.remove_below.new.page in
    let told = g.S.Pages.pages c.args.space.now in
    let is = inner_there old c.read.result c.read.ensures.value c.if-read-eq-LEAF.false in
    let here = IfSome_then told c.in_ok-step_into.ensures.visits.there (λ map here. here.spelled) in
    let new = c.set_mirror.new.page in
    let set = c.set_mirror.ensures in
    let now = inner_here new set.held in
    let kept = g.met.S.NodeSpace.rests c.remove_below.new.space c.update_page.new.space c.update_page.ensures.rest in
    let same = g.met.S.NodeSpace.rests c.args.space.now c.step_into.new.pages c.step_into.ensures.same.rest in
    let read = kept_read g.S.Pages g.S.HasRoom c.args.space.now c.step_into.new.pages same.2 c.step_into.ensures.same.pages in
    let below = kept_both g.S.Pages g.S.HasRoom c.args.space.now c.step_into.new.pages c.remove_below.new.space read
    c.in_ok-changed.ensures.done.kept in
    let shrinks = large_shrinks (removed key) key (removed_local key) (inner_in old) (inner_in new) c.holder_place_in-i.result
    c.child_below-place.result before after c.holder_place_in-i.ensures.ordered c.child_below-place.ensures
    c.mirror_in.result c.in_ok-changed.changed (λ no. ap node_in (c.in_ok-changed.ensures.done.same no)) (node_in old) told
    (g.S.Pages.pages c.step_into.new.pages)
    (g.S.Pages.pages c.remove_below.new.space) (g.S.Pages.pages c.update_page.new.space) is c.step_into.ensures.same.pages
    here c.in_ok-changed.ensures.done.shrinks c.in_ok-changed.ensures.done.kept.told
    (not_small c.is_small_in.result (count_of after) c.is_small_in.ensures c.if-is_small_in.false) c.in_ok-update_page.ensures.ok
    set.level set.mirror c.mirror_in.ensures set.items set.right in
    record {
      shrinks = subst (λ (n : Node). Shrinks (removed key) key TakesOut (λ o. IsSome o) told (g.S.Pages.pages c.update_page.new.space) (node_in old) n)
          (sym now) shrinks;
      holds = set.held.holds;
      level = ap level_of now ∙ set.level ∙ sym (ap level_of is);
      kept = kept_both g.S.Pages g.S.HasRoom c.args.space.now c.remove_below.new.space c.update_page.new.space below
          (kept_change g.S.Pages g.S.HasRoom c.remove_below.new.space c.update_page.new.space
          (IsUpdated c.in_ok-changed.changed c.child_below-place.result.at after) kept.2 c.in_ok-update_page.ensures.ok);
      same = set.same;
    }

pub returns-clause-spent : goal.returns-clause-spent
returns-clause-spent g t c =
    let same = g.met.S.NodeSpace.rests c.args.space.now c.step_into.new.pages c.step_into.ensures.same.rest in
    let kept = g.met.S.NodeSpace.rests c.remove_below.new.space c.update_page.new.space c.update_page.ensures.rest in
    let first = spends_both g.S.Counted g.S.HasRoom c.args.space.now c.step_into.new.pages c.remove_below.new.space
    (spends_nothing g.S.Counted g.S.HasRoom c.args.space.now c.step_into.new.pages same c.step_into.ensures.same.name c.step_into.ensures.same.frame)
    c.remove_below.ensures.spent in
    spends_both g.S.Counted g.S.HasRoom c.args.space.now c.remove_below.new.space c.update_page.new.space first
    (spends_nothing g.S.Counted g.S.HasRoom c.remove_below.new.space c.update_page.new.space kept c.update_page.ensures.stays.name
    c.update_page.ensures.stays.frame)

pub returns-then-read-eq-LEAF-clause-steps : goal.returns-then-read-eq-LEAF-clause-steps
returns-then-read-eq-LEAF-clause-steps g t c =
    omega (arith, level_least (node_in c.args.page.now) c.requires.node.level)

pub returns-in_err-step_into-clause-steps : goal.returns-in_err-step_into-clause-steps
returns-in_err-step_into-clause-steps g t c =
    omega (
      arith,
      c.step_into.ensures.step,
      two_levels (node_in c.args.page.now) (inner_in c.args.page.now) c.requires.node.level
          (inner_there c.args.page.now c.read.result c.read.ensures.value c.if-read-eq-LEAF.false),
    )

pub returns-in_err-changed-clause-steps : goal.returns-in_err-changed-clause-steps
returns-in_err-changed-clause-steps g t c =
    let smaller = child_level_lower (node_in c.args.page.now) (node_in c.step_into.new.page) (inner_in c.args.page.now) c.holder_place_in-i.result
    c.child_below-place.result (inner_there c.args.page.now c.read.result c.read.ensures.value c.if-read-eq-LEAF.false) c.child_below-place.ensures
    (c.in_ok-step_into.ensures.visits.meets Level) in
    omega (arith, c.step_into.ensures.step, c.remove_below.ensures.steps, smaller)

pub returns-then-is_small_in-clause-steps : goal.returns-then-is_small_in-clause-steps
returns-then-is_small_in-clause-steps g t c =
    let smaller = child_level_lower (node_in c.args.page.now) (node_in c.step_into.new.page) (inner_in c.args.page.now) c.holder_place_in-i.result
    c.child_below-place.result (inner_there c.args.page.now c.read.result c.read.ensures.value c.if-read-eq-LEAF.false) c.child_below-place.ensures
    (c.in_ok-step_into.ensures.visits.meets Level) in
    omega (arith, c.step_into.ensures.step, c.remove_below.ensures.steps, c.rejoin_in.ensures.step, smaller)

pub returns-in_err-rejoin_in-clause-steps : goal.returns-in_err-rejoin_in-clause-steps
returns-in_err-rejoin_in-clause-steps g t c =
    let smaller = child_level_lower (node_in c.args.page.now) (node_in c.step_into.new.page) (inner_in c.args.page.now) c.holder_place_in-i.result
    c.child_below-place.result (inner_there c.args.page.now c.read.result c.read.ensures.value c.if-read-eq-LEAF.false) c.child_below-place.ensures
    (c.in_ok-step_into.ensures.visits.meets Level) in
    omega (arith, c.step_into.ensures.step, c.remove_below.ensures.steps, c.rejoin_in.ensures.step, smaller)

pub returns-in_err-update_page-clause-steps : goal.returns-in_err-update_page-clause-steps
returns-in_err-update_page-clause-steps g t c =
    let smaller = child_level_lower (node_in c.args.page.now) (node_in c.step_into.new.page) (inner_in c.args.page.now) c.holder_place_in-i.result
    c.child_below-place.result (inner_there c.args.page.now c.read.result c.read.ensures.value c.if-read-eq-LEAF.false) c.child_below-place.ensures
    (c.in_ok-step_into.ensures.visits.meets Level) in
    omega (arith, c.step_into.ensures.step, c.remove_below.ensures.steps, smaller)

pub returns-clause-steps : goal.returns-clause-steps
returns-clause-steps g t c =
    let smaller = child_level_lower (node_in c.args.page.now) (node_in c.step_into.new.page) (inner_in c.args.page.now) c.holder_place_in-i.result
    c.child_below-place.result (inner_there c.args.page.now c.read.result c.read.ensures.value c.if-read-eq-LEAF.false) c.child_below-place.ensures
    (c.in_ok-step_into.ensures.visits.meets Level) in
    omega (arith, c.step_into.ensures.step, c.remove_below.ensures.steps, smaller)
