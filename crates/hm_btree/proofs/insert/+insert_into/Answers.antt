use Rattle.std.proofs.Common.{◌+◌, ◌<◌, ◌≤◌, ◌*◌, ◌-◌, ℕ, ap, length, refl, sym, subst, ◌∙◌, true≢false, rules, Result, arith}
use Rattle.std.specs.Prelude.{Option, IsNone}
use Rattle.std.proofs.lemmas.Option.{IfSome_then}
use Rattle.std.proofs.lemmas.Result.{err_from_is_err_and, IfOk-weaker}
use Rattle.hm_fields.specs.Pages.{page_in}
use Rattle.hm_types.specs.declared.fault.Fault.{Fault}
use Rattle.hm_types.specs.Faults.{HasFaultCause}
use Rattle.hm_key.specs.Elements.{inserted, last_id}
use Rattle.hm_key.specs.Key.{key_of}
use Rattle.hm_key.specs.declared.base.Base.{Base}
use Rattle.hm_types.specs.declared.zone.TheConstants.{TREE_ZONE}
use Rattle.hm_node.specs.Head.{head_in}
use Rattle.hm_node.specs.Inner.{child_in, inner_in}
use Rattle.hm_node.specs.Leaf.{leaf_in}
use Rattle.hm_node.specs.Node.{level_of, node_in}
use Rattle.hm_node.specs.Places.{place}
use Rattle.hm_node.specs.declared.node.Node.{Node}
use Rattle.hm_node.proofs.PlaceLemmas.{first_length}
use Rattle.hm_node.proofs.ReadyLemmas.{leaf_there, inner_there, inner_here}
use Rattle.hm_search.specs.Place.{mirror_of}
use Rattle.hm_search.specs.declared.place_rule.PlaceRule.TheVariants.{Level}
use Rattle.hm_btree.specs.Marking.{Writes}
use Rattle.hm_btree.specs.Below.{HasPassCause, Works}
use Rattle.hm_btree.specs.Calls.Insert.{AddsBeside, InsertsBelow}
use Rattle.hm_btree.specs.Edits.{with_mirror}
use Rattle.hm_btree.specs.Grow.{Grows, upper_at, upper_of}
use Rattle.hm_btree.specs.Space.{HasAdded, IsUpdated}
use Rattle.hm_btree.specs.declared.space.TheConstants.{NODE_BYTES}
use Rattle.hm_btree.specs.declared.upper.Grown.{Grown}
use Rattle.hm_btree.specs.declared.upper.Upper.{Upper}
use Rattle.hm_btree.proofs.EditLemmas.{child_level_lower}
use Rattle.hm_btree.proofs.GrowsLemmas.{leaf_grows, inner_grows}
use Rattle.hm_btree.proofs.InsertLemmas.{next_within, two_levels, one_more, spends_add, spends_none, room_left}
use Rattle.hm_btree.proofs.KeptLemmas.{kept_read, kept_change, kept_both}
use Rattle.hm_btree.proofs.LocalLemmas.{inserted_local}
use Rattle.hm_btree.proofs.PageLemmas.{page_shaped}
use Rattle.hm_btree.proofs.PassLemmas.{pass_cause_read, pass_cause_below}
use Rattle.hm_btree.proofs.ShapeLemmas.{child_offset}
use Rattle.hm_btree.proofs.UpdateLemmas.{surely_written}
use Rattle.hm_btree.proofs.WorksLemmas.{inner_works}
use Rattle.hm_btree.proofs.StepLemmas.{level_least}
use Rattle.hm_btree.proofs.insert.+insert_into.Goals as goal

pub returns-then-read-eq-LEAF-clause-done : goal.returns-then-read-eq-LEAF-clause-done
returns-then-read-eq-LEAF-clause-done g t c =
    let old = c.args.page.now in
    let new = c.insert_in_leaf-left.new.page in
    let held = c.insert_in_leaf-left.ensures.held in
    record {
      grows = leaf_grows c.args.element.now (node_in old) (node_in new) (leaf_in old) (leaf_in new) (g.S.Pages.pages c.args.space.now)
          (upper_of c.insert_in_leaf-left.result (page_in c.insert_in_leaf-left.new.upper)) (c.requires.element.element, c.requires.element.payload)
          (leaf_there old c.read.result c.read.ensures.value c.if-read-eq-LEAF.true) (leaf_there new (head_in new) refl held.kind)
          c.insert_in_leaf-left.ensures.becomes;
      holds = held.holds;
      above = c.insert_in_leaf-left.ensures.above;
      kept = record { told = refl; extents = refl };
      same = λ no. absurd (true≢false no);
    }

pub step_into-requires : goal.step_into-requires
step_into-requires g t c = child_offset (node_in c.args.page.now) (inner_in c.args.page.now) c.holder_place_in-i.result c.child_below-place.result
    (page_shaped c.args.page.now c.requires.node)
    (inner_there c.args.page.now c.read.result c.read.ensures.value c.if-read-eq-LEAF.false) c.child_below-place.ensures

pub returns-in_err-step_into-clause-spent : goal.returns-in_err-step_into-clause-spent
returns-in_err-step_into-clause-spent g t c =
    let same = g.met.S.NodeSpace.rests c.args.space.now c.step_into.new.pages c.step_into.ensures.same.rest in
    spends_none g.S.Counted g.S.HasRoom c.args.space.now c.step_into.new.pages (NODE_BYTES * (level_of (node_in c.args.page.now) - 1)) same
    c.step_into.ensures.same.name c.step_into.ensures.same.frame

pub returns-in_err-step_into-clause-cause : goal.returns-in_err-step_into-clause-cause
returns-in_err-step_into-clause-cause g t c =
    let fault = c.in_err-step_into.field-0.0 in
    let told = g.S.Pages.pages c.args.space.now in
    let old = g.S.Counted.faults c.args.space.now in
    let new = g.S.Counted.faults c.step_into.new.pages in
    let p = err_from_is_err_and c.from_residual.result c.from_residual.ensures.1 in
    let whole = pass_cause_read {T = Grown} told (node_in c.args.page.now)
    (inner_in c.args.page.now) c.holder_place_in-i.result c.child_below-place.result old new fault
    (inner_there c.args.page.now c.read.result c.read.ensures.value c.if-read-eq-LEAF.false) c.child_below-place.ensures
    (subst (λ (r : Result (Unit {0}) Fault). HasFaultCause old new r) c.in_err-step_into.was c.step_into.ensures.cause)
    c.in_err-step_into.ensures.damage in
    rw (p.1, p.2) whole

pub insert_into-requires : goal.insert_into-requires
insert_into-requires g t c κs within =
    let same = g.met.S.NodeSpace.rests c.args.space.now c.step_into.new.pages c.step_into.ensures.same.rest in
    let smaller : level_of (node_in c.step_into.new.page) < level_of (node_in c.args.page.now) =
    child_level_lower (node_in c.args.page.now) (node_in c.step_into.new.page) (inner_in c.args.page.now) c.holder_place_in-i.result c.child_below-place.result
    (inner_there c.args.page.now c.read.result c.read.ensures.value c.if-read-eq-LEAF.false) c.child_below-place.ensures
    (c.in_ok-step_into.ensures.visits.meets Level) in
    let less : NODE_BYTES * (level_of (node_in c.step_into.new.page) - 1) ≤ g.S.HasRoom.room c.step_into.new.pages TREE_ZONE =
    room_left g.S.Counted g.S.HasRoom c.args.space.now c.step_into.new.pages 0 (NODE_BYTES * (level_of (node_in c.step_into.new.page) - 1))
    (NODE_BYTES * (level_of (node_in c.args.page.now) - 1))
    (spends_none g.S.Counted g.S.HasRoom c.args.space.now c.step_into.new.pages 0 same c.step_into.ensures.same.name c.step_into.ensures.same.frame)
    (omega (arith, smaller)) c.requires.room in
    search rules

pub returns-in_err-changed-clause-spent : goal.returns-in_err-changed-clause-spent
returns-in_err-changed-clause-spent g t c =
    let same = g.met.S.NodeSpace.rests c.args.space.now c.step_into.new.pages c.step_into.ensures.same.rest in
    let smaller = child_level_lower (node_in c.args.page.now) (node_in c.step_into.new.page) (inner_in c.args.page.now) c.holder_place_in-i.result
    c.child_below-place.result (inner_there c.args.page.now c.read.result c.read.ensures.value c.if-read-eq-LEAF.false) c.child_below-place.ensures
    (c.in_ok-step_into.ensures.visits.meets Level) in
    spends_add g.S.Counted g.S.HasRoom c.args.space.now c.step_into.new.pages c.insert_into.new.space 0
    (NODE_BYTES * (level_of (node_in c.step_into.new.page) - 1)) (NODE_BYTES * (level_of (node_in c.args.page.now) - 1))
    (omega (arith, smaller)) (spends_none g.S.Counted g.S.HasRoom c.args.space.now c.step_into.new.pages 0 same c.step_into.ensures.same.name
    c.step_into.ensures.same.frame) c.insert_into.ensures.spent

pub returns-in_err-changed-clause-cause : goal.returns-in_err-changed-clause-cause
returns-in_err-changed-clause-cause g t c =
    let fault = c.in_err-changed.field-0.0 in
    let told = g.S.Pages.pages c.args.space.now in
    let now = g.S.Pages.pages c.step_into.new.pages in
    let old = g.S.Counted.faults c.args.space.now in
    let mid = g.S.Counted.faults c.step_into.new.pages in
    let new = g.S.Counted.faults c.insert_into.new.space in
    let p = err_from_is_err_and c.from_residual-in_err-changed.result c.from_residual-in_err-changed.ensures.1 in
    let whole = pass_cause_below told now (node_in c.args.page.now) (node_in c.step_into.new.page) (inner_in c.args.page.now) c.holder_place_in-i.result
    c.child_below-place.result old mid new fault
    (inner_there c.args.page.now c.read.result c.read.ensures.value c.if-read-eq-LEAF.false) c.child_below-place.ensures
    c.step_into.ensures.same.pages c.step_into.ensures.cause.never_falls c.in_ok-step_into.ensures.visits.there
    (subst (λ (r : Result Grown Fault). HasPassCause now (node_in c.step_into.new.page) mid new r)
    c.in_err-changed.was c.insert_into.ensures.cause) in
    rw (p.1, p.2) whole

pub update_page-requires-clause-at : goal.update_page-requires-clause-at
update_page-requires-clause-at g t c = child_offset (node_in c.args.page.now) (inner_in c.args.page.now) c.holder_place_in-i.result c.child_below-place.result
    (page_shaped c.args.page.now c.requires.node)
    (inner_there c.args.page.now c.read.result c.read.ensures.value c.if-read-eq-LEAF.false) c.child_below-place.ensures

pub returns-in_err-update_page-clause-spent : goal.returns-in_err-update_page-clause-spent
returns-in_err-update_page-clause-spent g t c =
    let same = g.met.S.NodeSpace.rests c.args.space.now c.step_into.new.pages c.step_into.ensures.same.rest in
    let kept = g.met.S.NodeSpace.rests c.insert_into.new.space c.update_page.new.space c.update_page.ensures.rest in
    let smaller = child_level_lower (node_in c.args.page.now) (node_in c.step_into.new.page) (inner_in c.args.page.now) c.holder_place_in-i.result
    c.child_below-place.result (inner_there c.args.page.now c.read.result c.read.ensures.value c.if-read-eq-LEAF.false) c.child_below-place.ensures
    (c.in_ok-step_into.ensures.visits.meets Level) in
    let below : ℕ = NODE_BYTES * (level_of (node_in c.step_into.new.page) - 1) in
    let first = spends_add g.S.Counted g.S.HasRoom c.args.space.now c.step_into.new.pages c.insert_into.new.space 0 below below (omega arith)
    (spends_none g.S.Counted g.S.HasRoom c.args.space.now c.step_into.new.pages 0 same c.step_into.ensures.same.name c.step_into.ensures.same.frame)
    c.insert_into.ensures.spent in
    spends_add g.S.Counted g.S.HasRoom c.args.space.now c.insert_into.new.space c.update_page.new.space below 0
    (NODE_BYTES * (level_of (node_in c.args.page.now) - 1)) (omega (arith, smaller)) first
    (spends_none g.S.Counted g.S.HasRoom c.insert_into.new.space c.update_page.new.space 0 kept c.update_page.ensures.stays.name
    c.update_page.ensures.stays.frame)

pub add_beside-requires-clause-room : goal.add_beside-requires-clause-room
add_beside-requires-clause-room g t c =
    let same = g.met.S.NodeSpace.rests c.args.space.now c.step_into.new.pages c.step_into.ensures.same.rest in
    let kept = g.met.S.NodeSpace.rests c.insert_into.new.space c.update_page.new.space c.update_page.ensures.rest in
    let smaller = child_level_lower (node_in c.args.page.now) (node_in c.step_into.new.page) (inner_in c.args.page.now) c.holder_place_in-i.result
    c.child_below-place.result (inner_there c.args.page.now c.read.result c.read.ensures.value c.if-read-eq-LEAF.false) c.child_below-place.ensures
    (c.in_ok-step_into.ensures.visits.meets Level) in
    let below : ℕ = NODE_BYTES * (level_of (node_in c.step_into.new.page) - 1) in
    let first = spends_add g.S.Counted g.S.HasRoom c.args.space.now c.step_into.new.pages c.insert_into.new.space 0 below below (omega arith)
    (spends_none g.S.Counted g.S.HasRoom c.args.space.now c.step_into.new.pages 0 same c.step_into.ensures.same.name c.step_into.ensures.same.frame)
    c.insert_into.ensures.spent in
    let second = spends_add g.S.Counted g.S.HasRoom c.args.space.now c.insert_into.new.space c.update_page.new.space below 0 below (omega arith) first
    (spends_none g.S.Counted g.S.HasRoom c.insert_into.new.space c.update_page.new.space 0 kept c.update_page.ensures.stays.name
    c.update_page.ensures.stays.frame) in
    room_left g.S.Counted g.S.HasRoom c.args.space.now c.update_page.new.space below NODE_BYTES (NODE_BYTES * (level_of (node_in c.args.page.now) - 1)) second
    (one_more (level_of (node_in c.step_into.new.page)) (level_of (node_in c.args.page.now)) smaller
    (two_levels (node_in c.args.page.now) (inner_in c.args.page.now) c.requires.node.level
    (inner_there c.args.page.now c.read.result c.read.ensures.value c.if-read-eq-LEAF.false))) c.requires.room

pub add_beside-requires-clause-at : goal.add_beside-requires-clause-at
add_beside-requires-clause-at g t c =
    let old = c.args.page.now in
    let new = c.set_mirror-changed.new.page in
    let low : c.holder_place_in-i.result < length (inner_in old).places.items =
    omega (arith, c.holder_place_in-i.ensures.within, first_length (λ i. child_in old (place i)) (head_in old).count) in
    let next : c.holder_place_in-i.result + 1 ≤ length (inner_in new).places.items =
    next_within (with_mirror c.mirror_in.result) (record { left = c.child_below-place.result.left; child = 0; mirror = 0 })
    (inner_in old).places.items (inner_in new).places.items c.holder_place_in-i.result c.set_mirror-changed.ensures.items low in
    omega (arith, next, first_length (λ i. child_in new (place i)) (head_in new).count)

pub returns-in-None-clause-done : goal.returns-in-None-clause-done
returns-in-None-clause-done g t c =
    let e = c.args.element.now in
    let key = key_of e.base in
    let old = c.args.page.now in
    let new = c.set_mirror-changed.new.page in
    let before : Node = node_in c.step_into.new.page in
    let after : Node = node_in c.insert_into.new.page in
    let told = g.S.Pages.pages c.args.space.now in
    let set = c.set_mirror-changed.ensures in
    let grows = subst (λ (o : Option Base). Grows (inserted e) key (Writes (last_id e)) (λ x. IsNone x)
    (g.S.Pages.pages c.step_into.new.pages) (g.S.Pages.pages c.insert_into.new.space) before after (upper_of o (page_in c.insert_into.new.upper)))
    c.in-None.is c.in_ok-changed.ensures.done.grows in
    let works = inner_works (inserted e) key (Writes (last_id e)) (λ x. IsNone x) (inserted_local e) (inner_in old) (inner_in new)
    c.holder_place_in-i.result c.child_below-place.result before after c.mirror_in.result
    c.in_ok-changed.field-0.changed (λ no. ap node_in (c.in_ok-changed.ensures.done.same no).0) (node_in old)
    told (g.S.Pages.pages c.step_into.new.pages) (g.S.Pages.pages c.insert_into.new.space) (g.S.Pages.pages c.update_page.new.space)
    (inner_there old c.read.result c.read.ensures.value c.if-read-eq-LEAF.false) c.holder_place_in-i.ensures.ordered c.child_below-place.ensures
    c.step_into.ensures.same.pages (IfSome_then told c.in_ok-step_into.ensures.visits.there (λ map here. here.spelled)) grows c.in_ok-update_page.ensures.ok
    set.level set.mirror c.mirror_in.ensures set.items set.right in
    record {
      grows = subst (λ (n : Node). Works (inserted e) key (Writes (last_id e)) (λ x. IsNone x) told (g.S.Pages.pages c.update_page.new.space) (node_in old) n)
          (sym (inner_here new set.held)) works;
      holds = set.held.holds;
      above = tt;
      kept = let same = g.met.S.NodeSpace.rests c.args.space.now c.step_into.new.pages c.step_into.ensures.same.rest in
          let kept = g.met.S.NodeSpace.rests c.insert_into.new.space c.update_page.new.space c.update_page.ensures.rest in
          let read = kept_read g.S.Pages g.S.HasRoom c.args.space.now c.step_into.new.pages same.2 c.step_into.ensures.same.pages in
          let below = kept_both g.S.Pages g.S.HasRoom c.args.space.now c.step_into.new.pages c.insert_into.new.space read
          c.in_ok-changed.ensures.done.kept in
          kept_both g.S.Pages g.S.HasRoom c.args.space.now c.insert_into.new.space c.update_page.new.space below
          (kept_change g.S.Pages g.S.HasRoom c.insert_into.new.space c.update_page.new.space
          (IsUpdated c.in_ok-changed.field-0.changed c.child_below-place.result.at after) kept.2 c.in_ok-update_page.ensures.ok);
      same = λ no. (set.same no, refl);
    }

pub returns-in-None-clause-spent : goal.returns-in-None-clause-spent
returns-in-None-clause-spent g t c =
    let same = g.met.S.NodeSpace.rests c.args.space.now c.step_into.new.pages c.step_into.ensures.same.rest in
    let kept = g.met.S.NodeSpace.rests c.insert_into.new.space c.update_page.new.space c.update_page.ensures.rest in
    let smaller = child_level_lower (node_in c.args.page.now) (node_in c.step_into.new.page) (inner_in c.args.page.now) c.holder_place_in-i.result
    c.child_below-place.result (inner_there c.args.page.now c.read.result c.read.ensures.value c.if-read-eq-LEAF.false) c.child_below-place.ensures
    (c.in_ok-step_into.ensures.visits.meets Level) in
    let below : ℕ = NODE_BYTES * (level_of (node_in c.step_into.new.page) - 1) in
    let first = spends_add g.S.Counted g.S.HasRoom c.args.space.now c.step_into.new.pages c.insert_into.new.space 0 below below (omega arith)
    (spends_none g.S.Counted g.S.HasRoom c.args.space.now c.step_into.new.pages 0 same c.step_into.ensures.same.name c.step_into.ensures.same.frame)
    c.insert_into.ensures.spent in
    spends_add g.S.Counted g.S.HasRoom c.args.space.now c.insert_into.new.space c.update_page.new.space below 0
    (NODE_BYTES * (level_of (node_in c.args.page.now) - 1)) (omega (arith, smaller)) first
    (spends_none g.S.Counted g.S.HasRoom c.insert_into.new.space c.update_page.new.space 0 kept c.update_page.ensures.stays.name
    c.update_page.ensures.stays.frame)

pub returns-in-Some-clause-done : goal.returns-in-Some-clause-done
returns-in-Some-clause-done g t c =
    let e = c.args.element.now in
    let key = key_of e.base in
    let old = c.args.page.now in
    let mid = c.set_mirror-changed.new.page in
    let new = c.add_beside.new.page in
    let before : Node = node_in c.step_into.new.page in
    let after : Node = node_in c.insert_into.new.page in
    let upper : Upper = upper_at c.in-Some.left (page_in c.insert_into.new.upper) in
    let told = g.S.Pages.pages c.args.space.now in
    let set = c.set_mirror-changed.ensures in
    let grows = subst (λ (o : Option Base). Grows (inserted e) key (Writes (last_id e)) (λ x. IsNone x)
    (g.S.Pages.pages c.step_into.new.pages) (g.S.Pages.pages c.insert_into.new.space) before after (upper_of o (page_in c.insert_into.new.upper)))
    c.in-Some.is c.in_ok-changed.ensures.done.grows in
    let written = surely_written c.in_ok-changed.field-0.changed c.child_below-place.result.at after
    (g.S.Pages.pages c.insert_into.new.space) (g.S.Pages.pages c.update_page.new.space)
    (λ no. true≢false (subst (λ (o : Option Base). IsNone o) c.in-Some.is (c.in_ok-changed.ensures.done.same no).1))
    c.in_ok-update_page.ensures.ok in
    IfOk-weaker c.add_beside.result
    (AddsBeside (λ s. g.S.Pages.pages s) (λ s. g.S.HasRoom.extents s) (c.holder_place_in-i.result + 1) c.in-Some.left
    c.update_page.new.space c.add_beside.new.space mid new (page_in c.insert_into.new.upper) (page_in c.add_beside.new.upper))
    (InsertsBelow (λ s. g.S.Pages.pages s) (λ s. g.S.HasRoom.extents s) e c.args.space.now c.add_beside.new.space old new (page_in c.add_beside.new.upper))
    (λ more added.
    let above : Option Upper = upper_of more.left (page_in c.add_beside.new.upper) in
    let grown = inner_grows (inserted e) key (Writes (last_id e)) (λ x. IsNone x) (inserted_local e) (inner_in old) (inner_in mid) (inner_in new)
    c.holder_place_in-i.result c.child_below-place.result before after c.mirror_in.result
    upper added.at (mirror_of (node_in (page_in c.insert_into.new.upper))) above (node_in old)
    told (g.S.Pages.pages c.step_into.new.pages) (g.S.Pages.pages c.insert_into.new.space)
    (g.S.Pages.pages c.update_page.new.space) (g.S.Pages.pages c.add_beside.new.space)
    (inner_there old c.read.result c.read.ensures.value c.if-read-eq-LEAF.false) c.holder_place_in-i.ensures.ordered c.child_below-place.ensures
    c.step_into.ensures.same.pages (IfSome_then told c.in_ok-step_into.ensures.visits.there (λ map here. here.spelled))
    grows written added.added.told added.added.spot
    set.level set.mirror c.mirror_in.ensures refl set.items set.right added.splits.becomes in
    record {
      grows = subst (λ (n : Node). Grows (inserted e) key (Writes (last_id e)) (λ x. IsNone x) told
          (g.S.Pages.pages c.add_beside.new.space) (node_in old) n above)
          (sym (inner_here new added.splits.held)) grown;
      holds = added.splits.held.holds;
      above = added.splits.above;
      kept = let same = g.met.S.NodeSpace.rests c.args.space.now c.step_into.new.pages c.step_into.ensures.same.rest in
          let kept = g.met.S.NodeSpace.rests c.insert_into.new.space c.update_page.new.space c.update_page.ensures.rest in
          let read = kept_read g.S.Pages g.S.HasRoom c.args.space.now c.step_into.new.pages same.2 c.step_into.ensures.same.pages in
          let below = kept_both g.S.Pages g.S.HasRoom c.args.space.now c.step_into.new.pages c.insert_into.new.space read
          c.in_ok-changed.ensures.done.kept in
          let put = kept_both g.S.Pages g.S.HasRoom c.args.space.now c.insert_into.new.space c.update_page.new.space below
          (kept_change g.S.Pages g.S.HasRoom c.insert_into.new.space c.update_page.new.space
          (IsUpdated c.in_ok-changed.field-0.changed c.child_below-place.result.at after) kept.2 c.in_ok-update_page.ensures.ok) in
          kept_both g.S.Pages g.S.HasRoom c.args.space.now c.update_page.new.space c.add_beside.new.space put
          (kept_change g.S.Pages g.S.HasRoom c.update_page.new.space c.add_beside.new.space
          (HasAdded added.at upper.node) added.added.extents added.added.told);
      same = λ no. absurd (true≢false (sym added.changed ∙ no));
    }) c.add_beside.ensures.done

pub returns-in-Some-clause-spent : goal.returns-in-Some-clause-spent
returns-in-Some-clause-spent g t c =
    let same = g.met.S.NodeSpace.rests c.args.space.now c.step_into.new.pages c.step_into.ensures.same.rest in
    let kept = g.met.S.NodeSpace.rests c.insert_into.new.space c.update_page.new.space c.update_page.ensures.rest in
    let smaller = child_level_lower (node_in c.args.page.now) (node_in c.step_into.new.page) (inner_in c.args.page.now) c.holder_place_in-i.result
    c.child_below-place.result (inner_there c.args.page.now c.read.result c.read.ensures.value c.if-read-eq-LEAF.false) c.child_below-place.ensures
    (c.in_ok-step_into.ensures.visits.meets Level) in
    let below : ℕ = NODE_BYTES * (level_of (node_in c.step_into.new.page) - 1) in
    let first = spends_add g.S.Counted g.S.HasRoom c.args.space.now c.step_into.new.pages c.insert_into.new.space 0 below below (omega arith)
    (spends_none g.S.Counted g.S.HasRoom c.args.space.now c.step_into.new.pages 0 same c.step_into.ensures.same.name c.step_into.ensures.same.frame)
    c.insert_into.ensures.spent in
    let second = spends_add g.S.Counted g.S.HasRoom c.args.space.now c.insert_into.new.space c.update_page.new.space below 0 below (omega arith) first
    (spends_none g.S.Counted g.S.HasRoom c.insert_into.new.space c.update_page.new.space 0 kept c.update_page.ensures.stays.name
    c.update_page.ensures.stays.frame) in
    spends_add g.S.Counted g.S.HasRoom c.args.space.now c.update_page.new.space c.add_beside.new.space below NODE_BYTES
    (NODE_BYTES * (level_of (node_in c.args.page.now) - 1))
    (one_more (level_of (node_in c.step_into.new.page)) (level_of (node_in c.args.page.now)) smaller
    (two_levels (node_in c.args.page.now) (inner_in c.args.page.now) c.requires.node.level
    (inner_there c.args.page.now c.read.result c.read.ensures.value c.if-read-eq-LEAF.false))) second c.add_beside.ensures.spent

pub returns-then-read-eq-LEAF-clause-steps : goal.returns-then-read-eq-LEAF-clause-steps
returns-then-read-eq-LEAF-clause-steps g t c =
    omega (arith, level_least (node_in c.args.page.now) c.requires.node.level)

pub returns-in_err-step_into-clause-steps : goal.returns-in_err-step_into-clause-steps
returns-in_err-step_into-clause-steps g t c =
    omega (
      arith,
      c.step_into.ensures.step,
      two_levels (node_in c.args.page.now) (inner_in c.args.page.now) c.requires.node.level
          (inner_there c.args.page.now c.read.result c.read.ensures.value c.if-read-eq-LEAF.false),
    )

pub returns-in_err-changed-clause-steps : goal.returns-in_err-changed-clause-steps
returns-in_err-changed-clause-steps g t c =
    let smaller = child_level_lower (node_in c.args.page.now) (node_in c.step_into.new.page) (inner_in c.args.page.now) c.holder_place_in-i.result
    c.child_below-place.result (inner_there c.args.page.now c.read.result c.read.ensures.value c.if-read-eq-LEAF.false) c.child_below-place.ensures
    (c.in_ok-step_into.ensures.visits.meets Level) in
    omega (arith, c.step_into.ensures.step, c.insert_into.ensures.steps, smaller)

pub returns-in_err-update_page-clause-steps : goal.returns-in_err-update_page-clause-steps
returns-in_err-update_page-clause-steps g t c =
    let smaller = child_level_lower (node_in c.args.page.now) (node_in c.step_into.new.page) (inner_in c.args.page.now) c.holder_place_in-i.result
    c.child_below-place.result (inner_there c.args.page.now c.read.result c.read.ensures.value c.if-read-eq-LEAF.false) c.child_below-place.ensures
    (c.in_ok-step_into.ensures.visits.meets Level) in
    omega (arith, c.step_into.ensures.step, c.insert_into.ensures.steps, smaller)

pub returns-in-None-clause-steps : goal.returns-in-None-clause-steps
returns-in-None-clause-steps g t c =
    let smaller = child_level_lower (node_in c.args.page.now) (node_in c.step_into.new.page) (inner_in c.args.page.now) c.holder_place_in-i.result
    c.child_below-place.result (inner_there c.args.page.now c.read.result c.read.ensures.value c.if-read-eq-LEAF.false) c.child_below-place.ensures
    (c.in_ok-step_into.ensures.visits.meets Level) in
    omega (arith, c.step_into.ensures.step, c.insert_into.ensures.steps, smaller)

pub returns-in-Some-clause-steps : goal.returns-in-Some-clause-steps
returns-in-Some-clause-steps g t c =
    let smaller = child_level_lower (node_in c.args.page.now) (node_in c.step_into.new.page) (inner_in c.args.page.now) c.holder_place_in-i.result
    c.child_below-place.result (inner_there c.args.page.now c.read.result c.read.ensures.value c.if-read-eq-LEAF.false) c.child_below-place.ensures
    (c.in_ok-step_into.ensures.visits.meets Level) in
    omega (arith, c.step_into.ensures.step, c.insert_into.ensures.steps, smaller)
