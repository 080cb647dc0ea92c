use Rattle.std.proofs.Common.{◌≡◌, ◌+◌, ◌-◌, length, refl, subst, Result, arith}
use Rattle.std.proofs.lemmas.Result.{err_from_is_err_and, on_ok_weaker}
use Rattle.hm_types.specs.Faults.{HasFaultCause}
use Rattle.hm_types.specs.declared.fault.Fault.{Fault}
use Rattle.hm_node.specs.declared.node.Node.{Node}
use Rattle.hm_node.specs.declared.node.Node.TheVariants.{Inner as inner_node}
use Rattle.hm_btree.proofs.KeptLemmas.{kept_read, kept_both}
use Rattle.hm_btree.proofs.NeighbourLemmas.{level_below, before_last, visited_cause, right_read, left_read, right_page, left_page, right_joined, left_joined}
use Rattle.hm_btree.proofs.ShapeLemmas.{child_offset}
use Rattle.hm_btree.proofs.SpendLemmas.{spends_nothing, spends_both}
use Rattle.hm_btree.proofs.remove.rejoin.Goals as goal

pub returns-in_err-right-clause-spent : goal.returns-in_err-right-clause-spent
returns-in_err-right-clause-spent g c =
    let same = g.met.S.NodeSpace.rests c.args.space.now c.visited_node.new.space c.visited_node.ensures.same.rest in
    spends_nothing g.S.Counted g.S.HasRoom c.args.space.now c.visited_node.new.space same c.visited_node.ensures.same.name c.visited_node.ensures.same.frame

pub returns-in_err-right-clause-cause : goal.returns-in_err-right-clause-cause
returns-in_err-right-clause-cause g c =
    let told = g.S.Pages.pages c.args.space.now in
    let old = g.S.Counted.faults c.args.space.now in
    let new = g.S.Counted.faults c.visited_node.new.space in
    let p = err_from_is_err_and c.from_residual.result c.from_residual.ensures.1 in
    let whole = visited_cause told c.child.result old new c.in_err-right.field-0.0
    (right_read c.args.inner.now c.args.inner.now c.args.i c.args.child c.args.child c.child.result told
    (g.S.Pages.pages c.visited_node.new.space) told c.visited_node.ensures.same.pages c.requires.told c.child.ensures)
    (subst (λ (r : Result Node Fault). HasFaultCause old new r) c.in_err-right.was c.visited_node.ensures.cause) c.in_err-right.ensures.damage in
    rw (p.1, p.2) whole

pub join_at-requires-clause-pair : goal.join_at-requires-clause-pair
join_at-requires-clause-pair g c =
    record {
      shape = c.requires.inner.shape;
      within = omega (arith, c.if-i-count.true, c.len-count.ensures.value);
      left_fits = c.requires.child;
      right_fits = level_below c.args.inner.now (c.args.i + 1) c.child.result c.in_ok-right.right c.child.ensures
          c.in_ok-right.ensures.ok.shape c.in_ok-right.ensures.ok.level;
    }

pub join_at-requires-clause-told : goal.join_at-requires-clause-told
join_at-requires-clause-told g c =
    let told = g.S.Pages.pages c.args.space.now in
    right_page c.args.inner.now c.args.inner.now c.args.i c.args.child c.args.child c.child.result told
    (g.S.Pages.pages c.visited_node.new.space) told c.visited_node.ensures.same.pages c.requires.told

pub returns-in_err-left-clause-spent : goal.returns-in_err-left-clause-spent
returns-in_err-left-clause-spent g c =
    let same = g.met.S.NodeSpace.rests c.args.space.now c.visited_node-else-i-count.new.space c.visited_node-else-i-count.ensures.same.rest in
    spends_nothing g.S.Counted g.S.HasRoom c.args.space.now c.visited_node-else-i-count.new.space same c.visited_node-else-i-count.ensures.same.name
    c.visited_node-else-i-count.ensures.same.frame

pub returns-in_err-left-clause-cause : goal.returns-in_err-left-clause-cause
returns-in_err-left-clause-cause g c =
    let told = g.S.Pages.pages c.args.space.now in
    let old = g.S.Counted.faults c.args.space.now in
    let new = g.S.Counted.faults c.visited_node-else-i-count.new.space in
    let p = err_from_is_err_and c.from_residual-in_err-left.result c.from_residual-in_err-left.ensures.1 in
    let next : c.args.i - 1 + 1 ≡ c.args.i = before_last c.args.i c.len-count.result (length c.args.inner.now.places.items)
    c.if-i-count.false c.len-count.ensures.value c.requires.inner.many in
    let whole = visited_cause told c.child-else-i-count.result old new c.in_err-left.field-0.0
    (left_read c.args.inner.now c.args.inner.now c.args.i c.args.child c.args.child c.child-else-i-count.result told
    (g.S.Pages.pages c.visited_node-else-i-count.new.space) told c.visited_node-else-i-count.ensures.same.pages (c.args.i - 1) next
    c.requires.told c.child-else-i-count.ensures)
    (subst (λ (r : Result Node Fault). HasFaultCause old new r) c.in_err-left.was c.visited_node-else-i-count.ensures.cause) c.in_err-left.ensures.damage in
    rw (p.1, p.2) whole

pub join_at-requires-else-i-count-clause-pair : goal.join_at-requires-else-i-count-clause-pair
join_at-requires-else-i-count-clause-pair g c =
    let next : c.args.i - 1 + 1 ≡ c.args.i = before_last c.args.i c.len-count.result (length c.args.inner.now.places.items)
    c.if-i-count.false c.len-count.ensures.value c.requires.inner.many in
    record {
      shape = c.requires.inner.shape;
      within = omega (arith, next, c.requires.inner.within);
      left_fits = level_below c.args.inner.now (c.args.i - 1) c.child-else-i-count.result
          c.in_ok-left.left c.child-else-i-count.ensures c.in_ok-left.ensures.ok.shape c.in_ok-left.ensures.ok.level;
      right_fits = c.requires.child;
    }

pub join_at-requires-else-i-count-clause-told : goal.join_at-requires-else-i-count-clause-told
join_at-requires-else-i-count-clause-told g c =
    let told = g.S.Pages.pages c.args.space.now in
    let next : c.args.i - 1 + 1 ≡ c.args.i = before_last c.args.i c.len-count.result (length c.args.inner.now.places.items)
    c.if-i-count.false c.len-count.ensures.value c.requires.inner.many in
    left_page c.args.inner.now c.args.inner.now c.args.i c.args.child c.args.child c.child-else-i-count.result told
    (g.S.Pages.pages c.visited_node-else-i-count.new.space) told c.visited_node-else-i-count.ensures.same.pages (c.args.i - 1) next
    c.child-else-i-count.ensures c.requires.told

pub returns-in_ok-right-clause-done : goal.returns-in_ok-right-clause-done
returns-in_ok-right-clause-done g c =
    let same = g.met.S.NodeSpace.rests c.args.space.now c.visited_node.new.space c.visited_node.ensures.same.rest in
    let read = kept_read g.S.Pages g.S.HasRoom c.args.space.now c.visited_node.new.space same.2 c.visited_node.ensures.same.pages in
    on_ok_weaker c.join_at.result (λ done. record {
      joined = right_joined c.args.inner.now c.join_at.new.inner c.args.i c.args.child
          c.in_ok-right.right c.child.result (g.S.Pages.pages c.args.space.now) (g.S.Pages.pages c.visited_node.new.space) (g.S.Pages.pages c.join_at.new.space)
          c.visited_node.ensures.same.pages (omega (arith, c.if-i-count.true, c.len-count.ensures.value)) c.child.ensures
          (right_read c.args.inner.now c.args.inner.now c.args.i c.args.child c.args.child c.child.result
          (g.S.Pages.pages c.args.space.now) (g.S.Pages.pages c.visited_node.new.space) (g.S.Pages.pages c.args.space.now)
          c.visited_node.ensures.same.pages c.requires.told c.child.ensures)
          c.in_ok-right.ensures.ok.here done.joined;
      shape = done.shape;
      kept = kept_both g.S.Pages g.S.HasRoom c.args.space.now c.visited_node.new.space c.join_at.new.space read done.kept;
    }) c.join_at.ensures.done

pub returns-in_ok-right-clause-spent : goal.returns-in_ok-right-clause-spent
returns-in_ok-right-clause-spent g c =
    let same = g.met.S.NodeSpace.rests c.args.space.now c.visited_node.new.space c.visited_node.ensures.same.rest in
    spends_both g.S.Counted g.S.HasRoom c.args.space.now c.visited_node.new.space c.join_at.new.space
    (spends_nothing g.S.Counted g.S.HasRoom c.args.space.now c.visited_node.new.space same c.visited_node.ensures.same.name c.visited_node.ensures.same.frame)
    c.join_at.ensures.spent

pub returns-in_ok-left-clause-done : goal.returns-in_ok-left-clause-done
returns-in_ok-left-clause-done g c =
    let next : c.args.i - 1 + 1 ≡ c.args.i = before_last c.args.i c.len-count.result (length c.args.inner.now.places.items)
    c.if-i-count.false c.len-count.ensures.value c.requires.inner.many in
    let same = g.met.S.NodeSpace.rests c.args.space.now c.visited_node-else-i-count.new.space c.visited_node-else-i-count.ensures.same.rest in
    let read = kept_read g.S.Pages g.S.HasRoom c.args.space.now c.visited_node-else-i-count.new.space same.2 c.visited_node-else-i-count.ensures.same.pages in
    on_ok_weaker c.join_at-else-i-count.result (λ done. record {
      joined = left_joined c.args.inner.now c.join_at-else-i-count.new.inner c.args.i
          c.args.child c.in_ok-left.left c.child-else-i-count.result (g.S.Pages.pages c.args.space.now)
          (g.S.Pages.pages c.visited_node-else-i-count.new.space) (g.S.Pages.pages c.join_at-else-i-count.new.space)
          c.visited_node-else-i-count.ensures.same.pages (c.args.i - 1) next c.child-else-i-count.ensures
          (left_read c.args.inner.now c.args.inner.now c.args.i c.args.child c.args.child c.child-else-i-count.result
          (g.S.Pages.pages c.args.space.now) (g.S.Pages.pages c.visited_node-else-i-count.new.space) (g.S.Pages.pages c.args.space.now)
          c.visited_node-else-i-count.ensures.same.pages (c.args.i - 1) next c.requires.told c.child-else-i-count.ensures)
          c.in_ok-left.ensures.ok.here done.joined;
      shape = done.shape;
      kept = kept_both g.S.Pages g.S.HasRoom c.args.space.now c.visited_node-else-i-count.new.space c.join_at-else-i-count.new.space read done.kept;
    }) c.join_at-else-i-count.ensures.done

pub returns-in_ok-left-clause-spent : goal.returns-in_ok-left-clause-spent
returns-in_ok-left-clause-spent g c =
    let same = g.met.S.NodeSpace.rests c.args.space.now c.visited_node-else-i-count.new.space c.visited_node-else-i-count.ensures.same.rest in
    spends_both g.S.Counted g.S.HasRoom c.args.space.now c.visited_node-else-i-count.new.space c.join_at-else-i-count.new.space
    (spends_nothing g.S.Counted g.S.HasRoom c.args.space.now c.visited_node-else-i-count.new.space same c.visited_node-else-i-count.ensures.same.name
    c.visited_node-else-i-count.ensures.same.frame) c.join_at-else-i-count.ensures.spent

pub visited_node-requires : goal.visited_node-requires
visited_node-requires g c =
    child_offset (inner_node c.args.inner.now) c.args.inner.now (c.args.i + 1) c.child.result c.requires.inner.shape refl c.child.ensures

pub visited_node-requires-else-i-count : goal.visited_node-requires-else-i-count
visited_node-requires-else-i-count g c =
    child_offset (inner_node c.args.inner.now) c.args.inner.now (c.args.i - 1) c.child-else-i-count.result c.requires.inner.shape refl
    c.child-else-i-count.ensures
