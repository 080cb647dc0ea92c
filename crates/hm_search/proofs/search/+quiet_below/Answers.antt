use Rattle.std.proofs.Common.{ℕ, ◌<◌, ◌≤◌, ◌∙◌, subst, rules, arith}
use Rattle.hm_key.specs.Key.{key_of}
use Rattle.hm_search.specs.Descent.{levels_below}
use Rattle.hm_search.specs.Search.{IsAsked}
use Rattle.hm_search.specs.declared.place_rule.PlaceRule.TheVariants.{Bounds}
use Rattle.hm_search.proofs.DescentLemmas.{child_levels, goes_lower, goes_told, cause_below}
use Rattle.hm_search.proofs.LookLemmas.{glances_leaf, glances_inner, shows_mirror}
use Rattle.hm_search.proofs.SearchLemmas.{child_bound, child_spot, leaf_quiet_told, node_inside, quiet_told, quiet_below_told}
use Rattle.hm_search.proofs.search.+quiet_below.Goals as goal

pub returns-then-mirror-since-clause-ok : goal.returns-then-mirror-since-clause-ok
returns-then-mirror-since-clause-ok g t c =
    let seen = c.in_ok-seen.ensures.sees in
    quiet_told (g.P.Pages.pages c.args.pages.now) c.args.subtree.now (key_of c.args.at.now) c.args.since.0 seen.node
    (subst (λ (n : ℕ). n ≤ c.args.since.0) (c.mirror.ensures ∙ shows_mirror (key_of c.args.at.now) seen.node c.in_ok-seen.seen seen.view)
    c.if-mirror-since.true) seen.there

pub returns-in-Leaf-clause-ok : goal.returns-in-Leaf-clause-ok
returns-in-Leaf-clause-ok g t c =
    let key = key_of c.args.at.now in
    let told = g.P.Pages.pages c.args.pages.now in
    let all = c.in_ok-seen.ensures.sees in
    let seen = glances_leaf c.args.subtree.now told key c.in_ok-seen.seen c.in-Leaf.field-0 c.in-Leaf.is all in
    leaf_quiet_told told c.args.subtree.now key c.args.since.0 seen.leaf
    (omega (arith, c.mirror.ensures, c.if-mirror-since.false, seen.view.mirror, rw c.in-Leaf.is at c.mirror.ensures)) seen.there

pub quiet_below-requires : goal.quiet_below-requires
quiet_below-requires g t c κs within =
    let key = key_of c.args.at.now in
    let child = c.in-Inner.inner.child in
    let seen = glances_inner c.args.subtree.now (g.P.Pages.pages c.args.pages.now) key c.in_ok-seen.seen c.in-Inner.inner c.in-Inner.is
    c.in_ok-seen.ensures.sees in
    let smaller : levels_below c.in-Inner.inner.child < levels_below c.args.subtree.now =
    goes_lower c.args.subtree.now seen.inner seen.view.child.0 child seen.level seen.meets seen.view.child.1 in
    let asked : IsAsked (key_of c.args.at.now) c.in-Inner.inner.child = record {
      spot = child_spot seen.inner seen.view.child.0 child seen.fields seen.view.child.1;
      bound = child_bound child seen.inner seen.view.child.0 seen.fields seen.view.child.1;
      inside = seen.view.inside (node_inside c.args.subtree.now seen.inner key (seen.meets Bounds) c.requires.asked.inside);
    } in
    let levels : 2 ≤ levels_below child = child_levels seen.inner seen.view.child.0 child seen.level seen.view.child.1 in
    search rules

pub returns-in-Inner-clause-steps : goal.returns-in-Inner-clause-steps
returns-in-Inner-clause-steps g t c =
    let key = key_of c.args.at.now in
    let seen = glances_inner c.args.subtree.now (g.P.Pages.pages c.args.pages.now) key c.in_ok-seen.seen c.in-Inner.inner c.in-Inner.is
    c.in_ok-seen.ensures.sees in
    omega (
      arith,
      c.step_to.ensures.step,
      c.quiet_below.ensures.steps,
      goes_lower c.args.subtree.now seen.inner seen.view.child.0 c.in-Inner.inner.child seen.level seen.meets seen.view.child.1,
    )

pub returns-in-Inner-clause-ok : goal.returns-in-Inner-clause-ok
returns-in-Inner-clause-ok g t c =
    let key = key_of c.args.at.now in
    let told = g.P.Pages.pages c.args.pages.now in
    let seen = glances_inner c.args.subtree.now told key c.in_ok-seen.seen c.in-Inner.inner c.in-Inner.is c.in_ok-seen.ensures.sees in
    quiet_below_told told (g.P.Pages.pages c.step_to.new.pages) c.args.subtree.now c.in-Inner.inner.child key c.args.since.0 seen.inner c.quiet_below.result
    c.step_to.ensures.same.pages seen.there (λ order. (seen.view.ordered order).child) c.quiet_below.ensures.ok

pub returns-in-Inner-clause-cause : goal.returns-in-Inner-clause-cause
returns-in-Inner-clause-cause g t c =
    let key = key_of c.args.at.now in
    let told = g.P.Pages.pages c.args.pages.now in
    let seen = glances_inner c.args.subtree.now told key c.in_ok-seen.seen c.in-Inner.inner c.in-Inner.is c.in_ok-seen.ensures.sees in
    cause_below told (g.P.Pages.pages c.step_to.new.pages) c.args.subtree.now c.in-Inner.inner.child (g.P.Counted.faults c.args.pages.now)
    (g.P.Counted.faults c.step_to.new.pages) (g.P.Counted.faults c.quiet_below.new.pages) c.quiet_below.result
    c.step_to.ensures.same.pages c.step_to.ensures.cause.never_falls
    (goes_told told c.args.subtree.now seen.inner c.in-Inner.inner.child seen.there seen.view.child) c.quiet_below.ensures.cause
