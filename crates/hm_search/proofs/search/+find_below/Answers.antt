use Rattle.std.proofs.Common.{◌<◌, ◌≤◌, refl, rules, arith}
use Rattle.hm_key.specs.Key.{key_of}
use Rattle.hm_node.specs.Inner.{IsNodeOffset}
use Rattle.hm_node.specs.declared.node.Node.TheVariants.{Inner as inner_node}
use Rattle.hm_search.specs.Descent.{levels_below}
use Rattle.hm_search.proofs.DescentLemmas.{child_levels, goes_lower, goes_told, cause_below}
use Rattle.hm_search.proofs.LookLemmas.{glances_leaf, glances_inner}
use Rattle.hm_search.proofs.SearchLemmas.{child_spot, find_told, leaf_place_told}
use Rattle.hm_search.proofs.search.+find_below.Goals as goal

pub returns-in-Leaf-clause-ok : goal.returns-in-Leaf-clause-ok
returns-in-Leaf-clause-ok g t c =
    let key = key_of c.args.at.now in
    let told = g.P.Pages.pages c.args.pages.now in
    let seen = glances_leaf c.args.subtree.now told key c.in_ok-leaf.field-0 c.in-Leaf.leaf c.in-Leaf.is c.in_ok-leaf.ensures.sees in
    leaf_place_told told c.args.subtree.now key seen.leaf (record { leaf = c.args.subtree.now.at; place = c.in-Leaf.leaf.place }) seen.there refl
    (λ order. (seen.view.ordered order).place)

pub find_below-requires : goal.find_below-requires
find_below-requires g t c κs within =
    let key = key_of c.args.at.now in
    let seen = glances_inner c.args.subtree.now (g.P.Pages.pages c.args.pages.now) key c.in_ok-leaf.field-0 c.in-Inner.inner c.in-Inner.is
    c.in_ok-leaf.ensures.sees in
    let smaller : levels_below c.in-Inner.inner.child < levels_below c.args.subtree.now =
    goes_lower c.args.subtree.now seen.inner seen.view.child.0 c.in-Inner.inner.child seen.level seen.meets seen.view.child.1 in
    let spot : IsNodeOffset c.in-Inner.inner.child.at = child_spot seen.inner seen.view.child.0 c.in-Inner.inner.child seen.fields seen.view.child.1 in
    let levels : 2 ≤ levels_below c.in-Inner.inner.child = child_levels seen.inner seen.view.child.0 c.in-Inner.inner.child seen.level seen.view.child.1 in
    search rules

pub returns-in-Inner-clause-steps : goal.returns-in-Inner-clause-steps
returns-in-Inner-clause-steps g t c =
    let key = key_of c.args.at.now in
    let seen = glances_inner c.args.subtree.now (g.P.Pages.pages c.args.pages.now) key c.in_ok-leaf.field-0 c.in-Inner.inner c.in-Inner.is
    c.in_ok-leaf.ensures.sees in
    omega (
      arith,
      c.step_to.ensures.step,
      c.find_below.ensures.steps,
      goes_lower c.args.subtree.now seen.inner seen.view.child.0 c.in-Inner.inner.child seen.level seen.meets seen.view.child.1,
    )

pub returns-in-Inner-clause-ok : goal.returns-in-Inner-clause-ok
returns-in-Inner-clause-ok g t c =
    let key = key_of c.args.at.now in
    let told = g.P.Pages.pages c.args.pages.now in
    let seen = glances_inner c.args.subtree.now told key c.in_ok-leaf.field-0 c.in-Inner.inner c.in-Inner.is c.in_ok-leaf.ensures.sees in
    find_told told (g.P.Pages.pages c.step_to.new.pages) c.args.subtree.now c.in-Inner.inner.child key (inner_node seen.inner) seen.inner c.find_below.result
    c.step_to.ensures.same.pages refl seen.there (λ order. (seen.view.ordered order).child) c.find_below.ensures.ok

pub returns-in-Inner-clause-cause : goal.returns-in-Inner-clause-cause
returns-in-Inner-clause-cause g t c =
    let key = key_of c.args.at.now in
    let told = g.P.Pages.pages c.args.pages.now in
    let seen = glances_inner c.args.subtree.now told key c.in_ok-leaf.field-0 c.in-Inner.inner c.in-Inner.is c.in_ok-leaf.ensures.sees in
    cause_below told (g.P.Pages.pages c.step_to.new.pages) c.args.subtree.now c.in-Inner.inner.child (g.P.Counted.faults c.args.pages.now)
    (g.P.Counted.faults c.step_to.new.pages) (g.P.Counted.faults c.find_below.new.pages) c.find_below.result
    c.step_to.ensures.same.pages c.step_to.ensures.cause.never_falls
    (goes_told told c.args.subtree.now seen.inner c.in-Inner.inner.child seen.there seen.view.child) c.find_below.ensures.cause
