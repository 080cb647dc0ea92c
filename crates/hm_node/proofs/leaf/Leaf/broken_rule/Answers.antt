use Rattle.std.proofs.Common.{refl, arith}
use Rattle.hm_node.proofs.BrokenLemmas.{refuted, broken_count, broken_order, broken_fields, broken_mirror, kept_all}
use Rattle.hm_node.proofs.LeafLemmas.{leaf_head, leaf_level, leaf_count, leaf_order, leaf_fields, leaf_mirror}
use Rattle.hm_node.proofs.leaf.Leaf.broken_rule.Goals as goal

pub returns-then-count-gt-MOST_LEAF_ELEMENTS-clause-some : goal.returns-then-count-gt-MOST_LEAF_ELEMENTS-clause-some
returns-then-count-gt-MOST_LEAF_ELEMENTS-clause-some c =
    let h = leaf_head c.args.page.now c.args.head.now c.from-count.result c.requires.head c.requires.kind c.requires.level c.from-count.ensures in
    broken_count c.args.page.now (leaf_level h) (λ kept. let few = (leaf_count h).1 kept in omega arith)

pub returns-in-Some-true-clause-none : goal.returns-in-Some-true-clause-none
returns-in-Some-true-clause-none c =
    let h = leaf_head c.args.page.now c.args.head.now c.from-count.result c.requires.head c.requires.kind c.requires.level c.from-count.ensures in
    let few = (leaf_count h).0 (omega arith) in
    let all = c.in-Some-true.ensures.some in
    kept_all c.args.page.now (leaf_level h) few ((leaf_order h).0 all.0.rising) ((leaf_fields h).0 (all.0.places, all.0.outside))
    ((leaf_mirror h _ refl).0 (all.1.0 c.in-Some-true.field-0-test))

pub returns-in-Some-false-clause-some : goal.returns-in-Some-false-clause-some
returns-in-Some-false-clause-some c =
    let h = leaf_head c.args.page.now c.args.head.now c.from-count.result c.requires.head c.requires.kind c.requires.level c.from-count.ensures in
    let few = (leaf_count h).0 (omega arith) in
    let all = c.in-Some-false.ensures.some in
    broken_mirror c.args.page.now (leaf_level h) few ((leaf_order h).0 all.0.rising) ((leaf_fields h).0 (all.0.places, all.0.outside))
    (refuted c.in-Some-false.field-0 c.in-Some-false.field-0-test (λ kept. all.1.1 ((leaf_mirror h _ refl).1 kept)))

pub returns-in-None-clause-some : goal.returns-in-None-clause-some
returns-in-None-clause-some c =
    let h = leaf_head c.args.page.now c.args.head.now c.from-count.result c.requires.head c.requires.kind c.requires.level c.from-count.ensures in
    let few = (leaf_count h).0 (omega arith) in
    let rising = c.are_rising.ensures.0 c.if-are_rising.true in
    broken_fields c.args.page.now (leaf_level h) few ((leaf_order h).0 rising)
    (λ kept. let both = (leaf_fields h).1 kept in c.in-None.ensures.none (record { rising = rising; places = both.0; outside = both.1 }))

pub returns-in-None-2-clause-some : goal.returns-in-None-2-clause-some
returns-in-None-2-clause-some c =
    let h = leaf_head c.args.page.now c.args.head.now c.from-count.result c.requires.head c.requires.kind c.requires.level c.from-count.ensures in
    let few = (leaf_count h).0 (omega arith) in
    broken_order c.args.page.now (leaf_level h) few
    (refuted c.are_rising.result c.if-are_rising.false (λ kept. c.are_rising.ensures.1 ((leaf_order h).1 kept)))
