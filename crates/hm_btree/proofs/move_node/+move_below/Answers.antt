use Rattle.std.proofs.Common.{◌≡◌, ◌≢◌, ◌≤◌, ◌<◌, ℕ, true≢false, ap, sym, subst, rules, arith, Result}
use Rattle.std.specs.Prelude.{Option, IfSome, IsSome}
use Rattle.std.proofs.lemmas.Option.{IfSome_then}
use Rattle.std.proofs.lemmas.Result.{err_from_is_err_and}
use Rattle.hm_types.specs.Faults.{HasFaultCause}
use Rattle.hm_types.specs.Told.{BothTell}
use Rattle.hm_types.specs.declared.fault.Fault.{Fault}
use Rattle.hm_types.specs.declared.zone.TheConstants.{TREE_ZONE}
use Rattle.hm_fields.specs.Pages.{PageMap}
use Rattle.hm_key.specs.Key.{key_of}
use Rattle.hm_node.specs.Inner.{inner_in}
use Rattle.hm_node.specs.Node.{level_of, node_in}
use Rattle.hm_node.specs.declared.node.Node.{Node}
use Rattle.hm_node.proofs.ReadyLemmas.{inner_there, inner_here}
use Rattle.hm_search.specs.declared.place_rule.PlaceRule.TheVariants.{Level}
use Rattle.hm_btree.specs.Below.{HasPassCause, Works}
use Rattle.hm_btree.specs.Marking.{Leaves}
use Rattle.hm_btree.specs.Space.{HasAdded, HasLost, IsUpdated}
use Rattle.hm_btree.specs.declared.move_node.Moved.{Moved}
use Rattle.hm_btree.specs.declared.space.TheConstants.{NODE_BYTES}
use Rattle.hm_btree.proofs.EditLemmas.{child_level_lower}
use Rattle.hm_btree.proofs.ExchangeLemmas.{below_exchanged, child_exchanged}
use Rattle.hm_btree.proofs.InsertLemmas.{spends_add, spends_none}
use Rattle.hm_btree.proofs.KeptLemmas.{kept_read, kept_change, kept_both}
use Rattle.hm_btree.proofs.MoveLemmas.{moved_works, stays_local}
use Rattle.hm_btree.proofs.PageLemmas.{page_shaped}
use Rattle.hm_btree.proofs.PassLemmas.{pass_cause_read, pass_cause_below}
use Rattle.hm_btree.proofs.ShapeLemmas.{child_offset}
use Rattle.hm_btree.proofs.WorksLemmas.{inner_works}
use Rattle.hm_btree.proofs.move_node.+move_below.Goals as goal

pub visit-requires : goal.visit-requires
visit-requires g t c = child_offset (node_in c.args.page.now) (inner_in c.args.page.now) c.holder_place_in-i.result c.child_below-place.result
    (page_shaped c.args.page.now c.requires.node) (inner_there c.args.page.now c.read.result c.read.ensures.value c.if-read-eq-LEAF.false)
    c.child_below-place.ensures

pub returns-in_err-visit-clause-spent : goal.returns-in_err-visit-clause-spent
returns-in_err-visit-clause-spent g t c =
    let same = g.met.S.NodeSpace.rests c.args.space.now c.visit.new.pages c.visit.ensures.same.rest in
    spends_none g.S.Counted g.S.HasRoom c.args.space.now c.visit.new.pages NODE_BYTES same c.visit.ensures.same.name c.visit.ensures.same.frame

pub returns-in_err-visit-clause-cause : goal.returns-in_err-visit-clause-cause
returns-in_err-visit-clause-cause g t c =
    let fault = c.in_err-visit.field-0.0 in
    let told = g.S.Pages.pages c.args.space.now in
    let old = g.S.Counted.faults c.args.space.now in
    let new = g.S.Counted.faults c.visit.new.pages in
    let p = err_from_is_err_and c.from_residual.result c.from_residual.ensures.1 in
    let whole = pass_cause_read {T = Moved} told (node_in c.args.page.now)
    (inner_in c.args.page.now) c.holder_place_in-i.result c.child_below-place.result old new fault
    (inner_there c.args.page.now c.read.result c.read.ensures.value c.if-read-eq-LEAF.false) c.child_below-place.ensures
    (subst (λ (r : Result (Unit {0}) Fault). HasFaultCause old new r) c.in_err-visit.was c.visit.ensures.cause)
    c.in_err-visit.ensures.damage in
    rw (p.1, p.2) whole

pub move_below-requires : goal.move_below-requires
move_below-requires g t c κs within =
    let smaller : level_of (node_in c.visit.new.page) < level_of (node_in c.args.page.now) =
    child_level_lower (node_in c.args.page.now) (node_in c.visit.new.page) (inner_in c.args.page.now) c.holder_place_in-i.result c.child_below-place.result
    (inner_there c.args.page.now c.read.result c.read.ensures.value c.if-read-eq-LEAF.false) c.child_below-place.ensures
    (c.in_ok-visit.ensures.visits.meets Level) in
    let same = g.met.S.NodeSpace.rests c.args.space.now c.visit.new.pages c.visit.ensures.same.rest in
    let room : NODE_BYTES ≤ g.S.HasRoom.room c.visit.new.pages TREE_ZONE = omega (arith, c.requires.room, ap (λ (f : ℕ → ℕ). f TREE_ZONE) same.0) in
    let there : IfSome (g.S.Pages.pages c.visit.new.pages) (λ was. IsSome (was c.args.at)) =
    subst (λ (o : Option PageMap). IfSome o (λ was. IsSome (was c.args.at))) (sym c.visit.ensures.same.pages) c.requires.there in
    search rules

pub returns-in_err-moved-clause-cause : goal.returns-in_err-moved-clause-cause
returns-in_err-moved-clause-cause g t c =
    let fault = c.in_err-moved.field-0.0 in
    let told = g.S.Pages.pages c.args.space.now in
    let now = g.S.Pages.pages c.visit.new.pages in
    let old = g.S.Counted.faults c.args.space.now in
    let mid = g.S.Counted.faults c.visit.new.pages in
    let new = g.S.Counted.faults c.move_below.new.space in
    let p = err_from_is_err_and c.from_residual-in_err-moved.result c.from_residual-in_err-moved.ensures.1 in
    let whole = pass_cause_below told now (node_in c.args.page.now) (node_in c.visit.new.page) (inner_in c.args.page.now) c.holder_place_in-i.result
    c.child_below-place.result old mid new fault (inner_there c.args.page.now c.read.result c.read.ensures.value c.if-read-eq-LEAF.false)
    c.child_below-place.ensures
    c.visit.ensures.same.pages c.visit.ensures.cause.never_falls c.in_ok-visit.ensures.visits.there
    (subst (λ (r : Result Moved Fault). HasPassCause now (node_in c.visit.new.page) mid new r) c.in_err-moved.was c.move_below.ensures.cause) in
    rw (p.1, p.2) whole

pub update_page-requires-clause-at : goal.update_page-requires-clause-at
update_page-requires-clause-at g t c = child_offset (node_in c.args.page.now) (inner_in c.args.page.now) c.holder_place_in-i.result c.child_below-place.result
    (page_shaped c.args.page.now c.requires.node) (inner_there c.args.page.now c.read.result c.read.ensures.value c.if-read-eq-LEAF.false)
    c.child_below-place.ensures

pub returns-in_err-update_page-clause-spent : goal.returns-in_err-update_page-clause-spent
returns-in_err-update_page-clause-spent g t c =
    let same = g.met.S.NodeSpace.rests c.args.space.now c.visit.new.pages c.visit.ensures.same.rest in
    let kept = g.met.S.NodeSpace.rests c.move_below.new.space c.update_page.new.space c.update_page.ensures.rest in
    let first = spends_add g.S.Counted g.S.HasRoom c.args.space.now c.visit.new.pages c.move_below.new.space 0 NODE_BYTES NODE_BYTES (omega arith)
    (spends_none g.S.Counted g.S.HasRoom c.args.space.now c.visit.new.pages 0 same c.visit.ensures.same.name c.visit.ensures.same.frame)
    c.move_below.ensures.spent in
    spends_add g.S.Counted g.S.HasRoom c.args.space.now c.move_below.new.space c.update_page.new.space NODE_BYTES 0 NODE_BYTES (omega arith) first
    (spends_none g.S.Counted g.S.HasRoom c.move_below.new.space c.update_page.new.space 0 kept c.update_page.ensures.stays.name
    c.update_page.ensures.stays.frame)

pub returns-clause-spent : goal.returns-clause-spent
returns-clause-spent g t c =
    let same = g.met.S.NodeSpace.rests c.args.space.now c.visit.new.pages c.visit.ensures.same.rest in
    let kept = g.met.S.NodeSpace.rests c.move_below.new.space c.update_page.new.space c.update_page.ensures.rest in
    let first = spends_add g.S.Counted g.S.HasRoom c.args.space.now c.visit.new.pages c.move_below.new.space 0 NODE_BYTES NODE_BYTES (omega arith)
    (spends_none g.S.Counted g.S.HasRoom c.args.space.now c.visit.new.pages 0 same c.visit.ensures.same.name c.visit.ensures.same.frame)
    c.move_below.ensures.spent in
    spends_add g.S.Counted g.S.HasRoom c.args.space.now c.move_below.new.space c.update_page.new.space NODE_BYTES 0 NODE_BYTES (omega arith) first
    (spends_none g.S.Counted g.S.HasRoom c.move_below.new.space c.update_page.new.space 0 kept c.update_page.ensures.stays.name
    c.update_page.ensures.stays.frame)

pub returns-then-eq-clause-done : goal.returns-then-eq-clause-done
returns-then-eq-clause-done g t c =
    let key = key_of c.args.key.now in
    let old = c.args.page.now in
    let new = c.set_child_in.new.page in
    let child : Node = node_in c.visit.new.page in
    let told = g.S.Pages.pages c.args.space.now in
    let read = g.S.Pages.pages c.visit.new.pages in
    let mid = g.S.Pages.pages c.add_page.new.space in
    let last = g.S.Pages.pages c.drop_node.new.self in
    let is = inner_there old c.read.result c.read.ensures.value c.if-read-eq-LEAF.false in
    let here : c.child_below-place.result.at ≡ c.args.at = search rules in
    let set = c.set_child_in.ensures in
    let added = c.in_ok-to.ensures.ok in
    let lost = c.in_ok-drop_node.ensures in
    let same = g.met.S.NodeSpace.rests c.args.space.now c.visit.new.pages c.visit.ensures.same.rest in
    let works = moved_works key (inner_in old) (inner_in new) c.holder_place_in-i.result c.child_below-place.result child c.in_ok-to.to added.spot
    (node_in old) told read mid last is c.holder_place_in-i.ensures.ordered c.child_below-place.ensures c.visit.ensures.same.pages
    (IfSome_then told c.in_ok-visit.ensures.visits.there (λ map here. here.spelled)) added.told
    (subst (λ (a : ℕ). BothTell mid last (HasLost a)) (sym here) lost.ok) set.level set.mirror set.items set.right in
    record {
      works = subst (λ (n : Node). Works (λ es. es) key Leaves (λ _. Unit {0}) told last (node_in old) n) (sym (inner_here new set.held)) works;
      pages = child_exchanged (node_in old) (inner_in old) c.holder_place_in-i.result c.child_below-place.result child is c.child_below-place.ensures
          c.args.at c.in_ok-to.to told read mid last c.visit.ensures.same.pages here added.spot added.told lost.ok;
      holds = set.held.holds;
      kept = kept_both g.S.Pages g.S.HasRoom c.args.space.now c.add_page.new.space c.drop_node.new.self
          (kept_both g.S.Pages g.S.HasRoom c.args.space.now c.visit.new.pages c.add_page.new.space
          (kept_read g.S.Pages g.S.HasRoom c.args.space.now c.visit.new.pages same.2 c.visit.ensures.same.pages)
          (kept_change g.S.Pages g.S.HasRoom c.visit.new.pages c.add_page.new.space (HasAdded c.in_ok-to.to child) added.extents added.told))
          (kept_change g.S.Pages g.S.HasRoom c.add_page.new.space c.drop_node.new.self (HasLost c.args.at) lost.extents lost.ok);
      same = λ no. absurd (true≢false no);
    }

pub returns-clause-done : goal.returns-clause-done
returns-clause-done g t c =
    let key = key_of c.args.key.now in
    let old = c.args.page.now in
    let new = c.set_mirror.new.page in
    let before : Node = node_in c.visit.new.page in
    let after : Node = node_in c.move_below.new.page in
    let told = g.S.Pages.pages c.args.space.now in
    let read = g.S.Pages.pages c.visit.new.pages in
    let mid = g.S.Pages.pages c.move_below.new.space in
    let last = g.S.Pages.pages c.update_page.new.space in
    let moved = c.in_ok-moved.moved in
    let did = c.in_ok-moved.ensures.done in
    let is = inner_there old c.read.result c.read.ensures.value c.if-read-eq-LEAF.false in
    let set = c.set_mirror.ensures in
    let here = IfSome_then told c.in_ok-visit.ensures.visits.there (λ map here. here.spelled) in
    let apart : c.child_below-place.result.at ≢ c.args.at = search rules in
    let same = g.met.S.NodeSpace.rests c.args.space.now c.visit.new.pages c.visit.ensures.same.rest in
    let kept = g.met.S.NodeSpace.rests c.move_below.new.space c.update_page.new.space c.update_page.ensures.rest in
    let works = inner_works (λ es. es) key Leaves (λ _. Unit {0}) (stays_local key) (inner_in old) (inner_in new)
    c.holder_place_in-i.result c.child_below-place.result before after c.mirror_in.result moved.changed (λ no. ap node_in (did.same no)) (node_in old)
    told read mid last is c.holder_place_in-i.ensures.ordered c.child_below-place.ensures c.visit.ensures.same.pages here
    did.works c.in_ok-update_page.ensures.ok set.level set.mirror c.mirror_in.ensures set.items set.right in
    record {
      works = subst (λ (n : Node). Works (λ es. es) key Leaves (λ _. Unit {0}) told last (node_in old) n) (sym (inner_here new set.held)) works;
      pages = below_exchanged (node_in old) (inner_in old) c.holder_place_in-i.result c.child_below-place.result before is c.child_below-place.ensures
          c.args.at moved.to moved.changed after told read mid last c.visit.ensures.same.pages apart here did.pages c.in_ok-update_page.ensures.ok;
      holds = set.held.holds;
      kept = kept_both g.S.Pages g.S.HasRoom c.args.space.now c.move_below.new.space c.update_page.new.space
          (kept_both g.S.Pages g.S.HasRoom c.args.space.now c.visit.new.pages c.move_below.new.space
          (kept_read g.S.Pages g.S.HasRoom c.args.space.now c.visit.new.pages same.2 c.visit.ensures.same.pages) did.kept)
          (kept_change g.S.Pages g.S.HasRoom c.move_below.new.space c.update_page.new.space
          (IsUpdated moved.changed c.child_below-place.result.at after) kept.2 c.in_ok-update_page.ensures.ok);
      same = set.same;
    }
