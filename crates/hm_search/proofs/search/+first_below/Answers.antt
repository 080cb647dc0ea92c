use Rattle.std.proofs.Common.{◌+◌, ◌<◌, ◌≤◌, Option, Result, refl, subst, ◌∙◌, arith, rules}
use Rattle.std.proofs.lemmas.Result.{err_from_is_err_and}
use Rattle.hm_types.specs.declared.fault.Fault.{Fault}
use Rattle.hm_key.specs.Elements.{first_from}
use Rattle.hm_key.specs.Key.{key_of}
use Rattle.hm_key.specs.declared.element.Element.{Element}
use Rattle.hm_node.specs.Inner.{IsNodeOffset}
use Rattle.hm_node.specs.declared.node.Node.TheVariants.{Leaf as leaf_node}
use Rattle.hm_search.specs.Descent.{levels_below, HasSearchCause}
use Rattle.hm_search.specs.Search.{holder_place}
use Rattle.hm_search.specs.Tree.{elements_in, node_at}
use Rattle.hm_search.specs.declared.reached.Reached.{Reached}
use Rattle.hm_search.proofs.DescentLemmas.{cause_below, cause_other, child_levels, goes_lower, goes_told}
use Rattle.hm_search.proofs.LookLemmas.{glances_leaf, glances_inner, last_place, next_at}
use Rattle.hm_search.proofs.NearLemmas.{first_found_told, first_missed_told, first_next_told, leaf_reached, nothing_told}
use Rattle.hm_search.proofs.SearchLemmas.{child_spot, leaf_told}
use Rattle.hm_search.proofs.search.+first_below.Goals as goal

pub returns-in-Leaf-clause-ok : goal.returns-in-Leaf-clause-ok
returns-in-Leaf-clause-ok g t c =
    let key = key_of c.args.at.now in
    let told = g.P.Pages.pages c.args.pages.now in
    let seen = glances_leaf c.args.subtree.now told key c.in_ok-seen.field-0 c.in-Leaf.seen c.in-Leaf.is c.in_ok-seen.ensures.sees in
    leaf_reached told c.args.subtree.now c.in-Leaf.seen.first
    (λ map height. first_from key (elements_in map height (node_at map c.args.subtree.now.at))) c.here.result c.here.ensures
    (leaf_told told c.args.subtree.now key (leaf_node seen.leaf) seen.leaf c.in-Leaf.seen.first refl seen.there
    (λ order. (seen.view.ordered order).first))

pub first_below-requires : goal.first_below-requires
first_below-requires g t c κs within =
    let key = key_of c.args.at.now in
    let told = g.P.Pages.pages c.args.pages.now in
    let seen = glances_inner c.args.subtree.now told key c.in_ok-seen.field-0 c.in-Inner.inner c.in-Inner.is
    c.in_ok-seen.ensures.sees in
    let smaller : levels_below c.in-Inner.inner.child < levels_below c.args.subtree.now =
    goes_lower c.args.subtree.now seen.inner seen.view.child.0 c.in-Inner.inner.child seen.level seen.meets seen.view.child.1 in
    let spot : IsNodeOffset c.in-Inner.inner.child.at = child_spot seen.inner seen.view.child.0 c.in-Inner.inner.child seen.fields seen.view.child.1 in
    let levels : 2 ≤ levels_below c.in-Inner.inner.child = child_levels seen.inner seen.view.child.0 c.in-Inner.inner.child seen.level seen.view.child.1 in
    search rules

pub returns-in_err-found-in-Inner-clause-steps : goal.returns-in_err-found-in-Inner-clause-steps
returns-in_err-found-in-Inner-clause-steps g t c =
    let key = key_of c.args.at.now in
    let told = g.P.Pages.pages c.args.pages.now in
    let seen = glances_inner c.args.subtree.now told key c.in_ok-seen.field-0 c.in-Inner.inner c.in-Inner.is
    c.in_ok-seen.ensures.sees in
    omega (
      arith,
      c.step_to.ensures.step,
      c.first_below.ensures.steps,
      goes_lower c.args.subtree.now seen.inner seen.view.child.0 c.in-Inner.inner.child
          seen.level seen.meets seen.view.child.1,
    )

pub returns-in_err-found-in-Inner-clause-cause : goal.returns-in_err-found-in-Inner-clause-cause
returns-in_err-found-in-Inner-clause-cause g t c =
    let key = key_of c.args.at.now in
    let told = g.P.Pages.pages c.args.pages.now in
    let seen = glances_inner c.args.subtree.now told key c.in_ok-seen.field-0 c.in-Inner.inner c.in-Inner.is
    c.in_ok-seen.ensures.sees in
    let old = g.P.Counted.faults c.args.pages.now in
    let new = g.P.Counted.faults c.first_below.new.pages in
    let whole = cause_below told (g.P.Pages.pages c.step_to.new.pages) c.args.subtree.now c.in-Inner.inner.child old
    (g.P.Counted.faults c.step_to.new.pages) new c.first_below.result c.step_to.ensures.same.pages c.step_to.ensures.cause.never_falls
    (goes_told told c.args.subtree.now seen.inner c.in-Inner.inner.child seen.there seen.view.child) c.first_below.ensures.cause in
    let failed = subst (λ (r : Result Reached Fault). HasSearchCause told c.args.subtree.now old new r) c.in_err-found-in-Inner.was whole in
    let p = err_from_is_err_and c.from_residual-in_err-found-in-Inner.result c.from_residual-in_err-found-in-Inner.ensures.1 in
    rw (p.1, p.2) failed

pub first_beside-requires-clause-spot : goal.first_beside-requires-clause-spot
first_beside-requires-clause-spot g t c =
    let key = key_of c.args.at.now in
    let told = g.P.Pages.pages c.args.pages.now in
    let seen = glances_inner c.args.subtree.now told key c.in_ok-seen.field-0 c.in-Inner.inner c.in-Inner.is
    c.in_ok-seen.ensures.sees in
    let next = next_at c.in-Inner.inner.next c.in-Some.next seen.inner c.in-Some.is seen.view.next in
    let spot : IsNodeOffset c.in-Some.next.at = child_spot seen.inner next.0 c.in-Some.next seen.fields next.1 in
    rw c.in-Some.is spot

pub first_beside-requires-clause-levels : goal.first_beside-requires-clause-levels
first_beside-requires-clause-levels g t c =
    let key = key_of c.args.at.now in
    let told = g.P.Pages.pages c.args.pages.now in
    let seen = glances_inner c.args.subtree.now told key c.in_ok-seen.field-0 c.in-Inner.inner c.in-Inner.is
    c.in_ok-seen.ensures.sees in
    let next = next_at c.in-Inner.inner.next c.in-Some.next seen.inner c.in-Some.is seen.view.next in
    let levels : 2 ≤ levels_below c.in-Some.next = child_levels seen.inner next.0 c.in-Some.next seen.level next.1 in
    rw c.in-Some.is levels

pub returns-in_err-first_beside-in-Some-clause-steps : goal.returns-in_err-first_beside-in-Some-clause-steps
returns-in_err-first_beside-in-Some-clause-steps g t c =
    let key = key_of c.args.at.now in
    let told = g.P.Pages.pages c.args.pages.now in
    let seen = glances_inner c.args.subtree.now told key c.in_ok-seen.field-0 c.in-Inner.inner c.in-Inner.is
    c.in_ok-seen.ensures.sees in
    let next = next_at c.in-Inner.inner.next c.in-Some.next seen.inner c.in-Some.is seen.view.next in
    omega (
      arith,
      c.step_to.ensures.step,
      c.in_ok-found-in-Inner.ensures.missed c.in-Missed.is,
      rw c.in-Some.is at c.first_beside.ensures.steps,
      goes_lower c.args.subtree.now seen.inner seen.view.child.0 c.in-Inner.inner.child seen.level seen.meets seen.view.child.1,
      goes_lower c.args.subtree.now seen.inner next.0 c.in-Some.next seen.level seen.meets next.1,
    )

pub returns-in_err-first_beside-in-Some-clause-cause : goal.returns-in_err-first_beside-in-Some-clause-cause
returns-in_err-first_beside-in-Some-clause-cause g t c =
    let key = key_of c.args.at.now in
    let told = g.P.Pages.pages c.args.pages.now in
    let seen = glances_inner c.args.subtree.now told key c.in_ok-seen.field-0 c.in-Inner.inner c.in-Inner.is
    c.in_ok-seen.ensures.sees in
    let next = next_at c.in-Inner.inner.next c.in-Some.next seen.inner c.in-Some.is seen.view.next in
    let old = g.P.Counted.faults c.args.pages.now in
    let new = g.P.Counted.faults c.first_beside.new.pages in
    let whole = cause_below told (g.P.Pages.pages c.first_below.new.pages) c.args.subtree.now c.in-Some.next old
    (g.P.Counted.faults c.first_below.new.pages) new c.first_beside.result
    (c.first_below.ensures.same.pages ∙ c.step_to.ensures.same.pages)
    (omega (arith, c.step_to.ensures.cause.never_falls, c.first_below.ensures.cause.counted.never_falls))
    (goes_told told c.args.subtree.now seen.inner c.in-Some.next seen.there next) (rw c.in-Some.is at c.first_beside.ensures.cause) in
    let failed = subst (λ (r : Result (Option Element) Fault). HasSearchCause told c.args.subtree.now old new r)
    c.in_err-first_beside-in-Some.was whole in
    let p = err_from_is_err_and c.from_residual-in_err-first_beside-in-Some.result c.from_residual-in_err-first_beside-in-Some.ensures.1 in
    rw (p.1, p.2) (cause_other {T = Option Element} {U = Reached} told c.args.subtree.now old new c.in_err-first_beside-in-Some.field-0.0 failed)

pub returns-in-Found-clause-ok : goal.returns-in-Found-clause-ok
returns-in-Found-clause-ok g t c =
    let key = key_of c.args.at.now in
    let told = g.P.Pages.pages c.args.pages.now in
    let seen = glances_inner c.args.subtree.now told key c.in_ok-seen.field-0 c.in-Inner.inner c.in-Inner.is
    c.in_ok-seen.ensures.sees in
    first_found_told told (g.P.Pages.pages c.step_to.new.pages) c.args.subtree.now c.in-Inner.inner.child key seen.inner
    c.in_ok-found-in-Inner.field-0 c.in-Found.found c.step_to.ensures.same.pages seen.there (λ order. (seen.view.ordered order).child)
    c.in-Found.is c.in_ok-found-in-Inner.ensures.ok

pub returns-in-Found-clause-steps : goal.returns-in-Found-clause-steps
returns-in-Found-clause-steps g t c =
    let key = key_of c.args.at.now in
    let told = g.P.Pages.pages c.args.pages.now in
    let seen = glances_inner c.args.subtree.now told key c.in_ok-seen.field-0 c.in-Inner.inner c.in-Inner.is
    c.in_ok-seen.ensures.sees in
    omega (
      arith,
      c.step_to.ensures.step,
      c.first_below.ensures.steps,
      goes_lower c.args.subtree.now seen.inner seen.view.child.0 c.in-Inner.inner.child
          seen.level seen.meets seen.view.child.1,
    )

pub returns-in_ok-first_beside-in-Some-clause-ok : goal.returns-in_ok-first_beside-in-Some-clause-ok
returns-in_ok-first_beside-in-Some-clause-ok g t c =
    let key = key_of c.args.at.now in
    let told = g.P.Pages.pages c.args.pages.now in
    let seen = glances_inner c.args.subtree.now told key c.in_ok-seen.field-0 c.in-Inner.inner c.in-Inner.is
    c.in_ok-seen.ensures.sees in
    first_next_told told (g.P.Pages.pages c.step_to.new.pages) (g.P.Pages.pages c.first_below.new.pages) c.args.subtree.now
    c.in-Inner.inner.child c.in-Some.next key seen.inner c.in_ok-found-in-Inner.field-0 c.in_ok-first_beside-in-Some.field-0 c.beside.result
    c.step_to.ensures.same.pages (c.first_below.ensures.same.pages ∙ c.step_to.ensures.same.pages) seen.there (λ order. (seen.view.ordered order).child)
    c.in-Missed.is (λ order. (seen.view.ordered order).next ∙ c.in-Some.is) c.in_ok-found-in-Inner.ensures.ok
    (rw c.in-Some.is at c.in_ok-first_beside-in-Some.ensures.ok) c.beside.ensures

pub returns-in_ok-first_beside-in-Some-clause-steps : goal.returns-in_ok-first_beside-in-Some-clause-steps
returns-in_ok-first_beside-in-Some-clause-steps g t c =
    let key = key_of c.args.at.now in
    let told = g.P.Pages.pages c.args.pages.now in
    let seen = glances_inner c.args.subtree.now told key c.in_ok-seen.field-0 c.in-Inner.inner c.in-Inner.is
    c.in_ok-seen.ensures.sees in
    let next = next_at c.in-Inner.inner.next c.in-Some.next seen.inner c.in-Some.is seen.view.next in
    omega (
      arith,
      c.step_to.ensures.step,
      c.in_ok-found-in-Inner.ensures.missed c.in-Missed.is,
      rw c.in-Some.is at c.first_beside.ensures.steps,
      goes_lower c.args.subtree.now seen.inner seen.view.child.0 c.in-Inner.inner.child seen.level seen.meets seen.view.child.1,
      goes_lower c.args.subtree.now seen.inner next.0 c.in-Some.next seen.level seen.meets next.1,
    )

pub returns-in-None-clause-ok : goal.returns-in-None-clause-ok
returns-in-None-clause-ok g t c =
    let key = key_of c.args.at.now in
    let told = g.P.Pages.pages c.args.pages.now in
    let seen = glances_inner c.args.subtree.now told key c.in_ok-seen.field-0 c.in-Inner.inner c.in-Inner.is
    c.in_ok-seen.ensures.sees in
    first_missed_told told (g.P.Pages.pages c.step_to.new.pages) c.args.subtree.now c.in-Inner.inner.child key seen.inner
    c.in_ok-found-in-Inner.field-0 c.step_to.ensures.same.pages seen.there (λ order. (seen.view.ordered order).child) c.in-Missed.is
    (λ order. last_place seen.inner.level seen.inner.right seen.inner.places.items (holder_place key seen.inner.places.items + 1)
    ((seen.view.ordered order).next ∙ c.in-None.is)) c.in_ok-found-in-Inner.ensures.ok

pub returns-in-None-clause-missed : goal.returns-in-None-clause-missed
returns-in-None-clause-missed g t c same =
    let key = key_of c.args.at.now in
    let told = g.P.Pages.pages c.args.pages.now in
    let seen = glances_inner c.args.subtree.now told key c.in_ok-seen.field-0 c.in-Inner.inner c.in-Inner.is
    c.in_ok-seen.ensures.sees in
    omega (
      arith,
      c.step_to.ensures.step,
      c.in_ok-found-in-Inner.ensures.missed c.in-Missed.is,
      goes_lower c.args.subtree.now seen.inner seen.view.child.0
          c.in-Inner.inner.child seen.level seen.meets seen.view.child.1,
    )

pub returns-in-None-clause-steps : goal.returns-in-None-clause-steps
returns-in-None-clause-steps g t c =
    let key = key_of c.args.at.now in
    let told = g.P.Pages.pages c.args.pages.now in
    let seen = glances_inner c.args.subtree.now told key c.in_ok-seen.field-0 c.in-Inner.inner c.in-Inner.is
    c.in_ok-seen.ensures.sees in
    omega (
      arith,
      c.step_to.ensures.step,
      c.first_below.ensures.steps,
      goes_lower c.args.subtree.now seen.inner seen.view.child.0 c.in-Inner.inner.child
          seen.level seen.meets seen.view.child.1,
    )

pub returns-in-Nothing-clause-ok : goal.returns-in-Nothing-clause-ok
returns-in-Nothing-clause-ok g t c =
    let key = key_of c.args.at.now in
    let told = g.P.Pages.pages c.args.pages.now in
    let seen = glances_inner c.args.subtree.now told key c.in_ok-seen.field-0 c.in-Inner.inner c.in-Inner.is
    c.in_ok-seen.ensures.sees in
    nothing_told told (g.P.Pages.pages c.step_to.new.pages) c.args.subtree.now c.in-Inner.inner.child seen.inner
    (holder_place key seen.inner.places.items) c.in_ok-found-in-Inner.field-0
    (λ map height. first_from key (elements_in map height (node_at map c.args.subtree.now.at)))
    (λ map height. first_from key (elements_in map height (node_at map c.in-Inner.inner.child.at)))
    c.step_to.ensures.same.pages seen.there (λ order. (seen.view.ordered order).child) c.in-Nothing.is c.in_ok-found-in-Inner.ensures.ok

pub returns-in-Nothing-clause-steps : goal.returns-in-Nothing-clause-steps
returns-in-Nothing-clause-steps g t c =
    let key = key_of c.args.at.now in
    let told = g.P.Pages.pages c.args.pages.now in
    let seen = glances_inner c.args.subtree.now told key c.in_ok-seen.field-0 c.in-Inner.inner c.in-Inner.is
    c.in_ok-seen.ensures.sees in
    omega (
      arith,
      c.step_to.ensures.step,
      c.first_below.ensures.steps,
      goes_lower c.args.subtree.now seen.inner seen.view.child.0 c.in-Inner.inner.child
          seen.level seen.meets seen.view.child.1,
    )
