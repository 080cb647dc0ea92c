use Rattle.std.proofs.Common.{◌<◌, ◌≤◌, refl, rules, arith}
use Rattle.hm_key.specs.Key.{key_of}
use Rattle.hm_node.specs.Inner.{IsNodeOffset}
use Rattle.hm_node.specs.declared.node.Node.TheVariants.{Leaf as leaf_node}
use Rattle.hm_search.specs.Descent.{levels_below}
use Rattle.hm_search.proofs.DescentLemmas.{child_levels, goes_lower, goes_told, cause_below}
use Rattle.hm_search.proofs.LookLemmas.{glances_leaf, glances_inner}
use Rattle.hm_search.proofs.NearLemmas.{first_beside_told, leaf_beside_told}
use Rattle.hm_search.proofs.SearchLemmas.{child_spot, leaf_told}
use Rattle.hm_search.proofs.search.+first_beside.Goals as goal

pub returns-in-Leaf-clause-ok : goal.returns-in-Leaf-clause-ok
returns-in-Leaf-clause-ok g t c =
    let key = key_of c.args.at.now in
    let told = g.P.Pages.pages c.args.pages.now in
    let seen = glances_leaf c.args.subtree.now told key c.in_ok-seen.field-0 c.in-Leaf.seen c.in-Leaf.is c.in_ok-seen.ensures.sees in
    leaf_beside_told told c.args.subtree.now key c.in-Leaf.seen.first
    (leaf_told told c.args.subtree.now key (leaf_node seen.leaf) seen.leaf c.in-Leaf.seen.first refl seen.there
    (λ order. (seen.view.ordered order).first))

pub returns-in-Leaf-clause-found : goal.returns-in-Leaf-clause-found
returns-in-Leaf-clause-found g t c =
    let key = key_of c.args.at.now in
    let told = g.P.Pages.pages c.args.pages.now in
    let seen = glances_leaf c.args.subtree.now told key c.in_ok-seen.field-0 c.in-Leaf.seen c.in-Leaf.is c.in_ok-seen.ensures.sees in
    seen.view.found

pub first_beside-requires : goal.first_beside-requires
first_beside-requires g t c κs within =
    let key = key_of c.args.at.now in
    let told = g.P.Pages.pages c.args.pages.now in
    let seen = glances_inner c.args.subtree.now told key c.in_ok-seen.field-0 c.in-Inner.inner c.in-Inner.is
    c.in_ok-seen.ensures.sees in
    let smaller : levels_below c.in-Inner.inner.child < levels_below c.args.subtree.now =
    goes_lower c.args.subtree.now seen.inner seen.view.child.0 c.in-Inner.inner.child seen.level seen.meets seen.view.child.1 in
    let spot : IsNodeOffset c.in-Inner.inner.child.at = child_spot seen.inner seen.view.child.0 c.in-Inner.inner.child seen.fields seen.view.child.1 in
    let levels : 2 ≤ levels_below c.in-Inner.inner.child = child_levels seen.inner seen.view.child.0 c.in-Inner.inner.child seen.level seen.view.child.1 in
    search rules

pub returns-in-Inner-clause-steps : goal.returns-in-Inner-clause-steps
returns-in-Inner-clause-steps g t c =
    let key = key_of c.args.at.now in
    let told = g.P.Pages.pages c.args.pages.now in
    let seen = glances_inner c.args.subtree.now told key c.in_ok-seen.field-0 c.in-Inner.inner c.in-Inner.is
    c.in_ok-seen.ensures.sees in
    omega (
      arith,
      c.step_to.ensures.step,
      c.first_beside.ensures.steps,
      goes_lower c.args.subtree.now seen.inner seen.view.child.0 c.in-Inner.inner.child seen.level seen.meets seen.view.child.1,
    )

pub returns-in-Inner-clause-ok : goal.returns-in-Inner-clause-ok
returns-in-Inner-clause-ok g t c =
    let key = key_of c.args.at.now in
    let told = g.P.Pages.pages c.args.pages.now in
    let seen = glances_inner c.args.subtree.now told key c.in_ok-seen.field-0 c.in-Inner.inner c.in-Inner.is
    c.in_ok-seen.ensures.sees in
    first_beside_told told (g.P.Pages.pages c.step_to.new.pages) c.args.subtree.now c.in-Inner.inner.child key seen.inner c.first_beside.result
    c.step_to.ensures.same.pages seen.there (λ order. (seen.view.ordered order).child) c.first_beside.ensures.ok

pub returns-in-Inner-clause-cause : goal.returns-in-Inner-clause-cause
returns-in-Inner-clause-cause g t c =
    let key = key_of c.args.at.now in
    let told = g.P.Pages.pages c.args.pages.now in
    let seen = glances_inner c.args.subtree.now told key c.in_ok-seen.field-0 c.in-Inner.inner c.in-Inner.is
    c.in_ok-seen.ensures.sees in
    cause_below told (g.P.Pages.pages c.step_to.new.pages) c.args.subtree.now c.in-Inner.inner.child (g.P.Counted.faults c.args.pages.now)
    (g.P.Counted.faults c.step_to.new.pages) (g.P.Counted.faults c.first_beside.new.pages) c.first_beside.result
    c.step_to.ensures.same.pages c.step_to.ensures.cause.never_falls
    (goes_told told c.args.subtree.now seen.inner c.in-Inner.inner.child seen.there seen.view.child) c.first_beside.ensures.cause
