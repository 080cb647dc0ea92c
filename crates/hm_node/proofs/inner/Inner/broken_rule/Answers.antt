use Rattle.std.proofs.Common.{refl}
use Rattle.hm_node.proofs.BrokenLemmas.{refuted, broken_level, broken_count, broken_order, broken_fields, broken_mirror, kept_all}
use Rattle.hm_node.proofs.InnerLemmas.{inner_head, inner_level, inner_count, inner_order, inner_fields, inner_mirror}
use Rattle.hm_node.proofs.inner.Inner.broken_rule.Goals as goal

pub returns-then-not-is_inner_level-clause-some : goal.returns-then-not-is_inner_level-clause-some
returns-then-not-is_inner_level-clause-some c =
    let h = inner_head c.args.page.now c.args.head.now c.from-count.result c.requires.head c.requires.kind c.from-count.ensures in
    broken_level c.args.page.now
    (refuted c.is_inner_level.result c.if-not-is_inner_level.true (λ kept. c.is_inner_level.ensures.1 ((inner_level h).1 kept)))

pub returns-then-not-is_inner_count-clause-some : goal.returns-then-not-is_inner_count-clause-some
returns-then-not-is_inner_count-clause-some c =
    let h = inner_head c.args.page.now c.args.head.now c.from-count.result c.requires.head c.requires.kind c.from-count.ensures in
    let level = (inner_level h).0 (c.is_inner_level.ensures.0 c.if-not-is_inner_level.false) in
    broken_count c.args.page.now level
    (refuted c.is_inner_count.result c.if-not-is_inner_count.true (λ kept. c.is_inner_count.ensures.1 ((inner_count h).1 kept)))

pub returns-in-Some-true-clause-none : goal.returns-in-Some-true-clause-none
returns-in-Some-true-clause-none c =
    let h = inner_head c.args.page.now c.args.head.now c.from-count.result c.requires.head c.requires.kind c.from-count.ensures in
    let level = (inner_level h).0 (c.is_inner_level.ensures.0 c.if-not-is_inner_level.false) in
    let some = (inner_count h).0 (c.is_inner_count.ensures.0 c.if-not-is_inner_count.false) in
    let all = c.in-Some-true.ensures.some in
    let fields = (inner_fields h).0 (all.0.right, all.0.places, all.0.outside) in
    kept_all c.args.page.now level some ((inner_order h).0 all.0.rising) fields ((inner_mirror h _ refl).0 (all.1.0 c.in-Some-true.field-0-test))

pub returns-in-Some-false-clause-some : goal.returns-in-Some-false-clause-some
returns-in-Some-false-clause-some c =
    let h = inner_head c.args.page.now c.args.head.now c.from-count.result c.requires.head c.requires.kind c.from-count.ensures in
    let level = (inner_level h).0 (c.is_inner_level.ensures.0 c.if-not-is_inner_level.false) in
    let some = (inner_count h).0 (c.is_inner_count.ensures.0 c.if-not-is_inner_count.false) in
    let all = c.in-Some-false.ensures.some in
    let fields = (inner_fields h).0 (all.0.right, all.0.places, all.0.outside) in
    broken_mirror c.args.page.now level some ((inner_order h).0 all.0.rising) fields
    (refuted c.in-Some-false.field-0 c.in-Some-false.field-0-test (λ kept. all.1.1 ((inner_mirror h _ refl).1 kept)))

pub returns-in-None-clause-some : goal.returns-in-None-clause-some
returns-in-None-clause-some c =
    let h = inner_head c.args.page.now c.args.head.now c.from-count.result c.requires.head c.requires.kind c.from-count.ensures in
    let level = (inner_level h).0 (c.is_inner_level.ensures.0 c.if-not-is_inner_level.false) in
    let some = (inner_count h).0 (c.is_inner_count.ensures.0 c.if-not-is_inner_count.false) in
    let rising = c.are_rising.ensures.0 c.if-are_rising.true in
    broken_fields c.args.page.now level some ((inner_order h).0 rising)
    (λ kept. let three = (inner_fields h).1 kept in c.in-None.ensures.none (record { rising = rising; right = three.0; places = three.1; outside = three.2 }))

pub returns-in-None-2-clause-some : goal.returns-in-None-2-clause-some
returns-in-None-2-clause-some c =
    let h = inner_head c.args.page.now c.args.head.now c.from-count.result c.requires.head c.requires.kind c.from-count.ensures in
    let level = (inner_level h).0 (c.is_inner_level.ensures.0 c.if-not-is_inner_level.false) in
    let some = (inner_count h).0 (c.is_inner_count.ensures.0 c.if-not-is_inner_count.false) in
    broken_order c.args.page.now level some
    (refuted c.are_rising.result c.if-are_rising.false (λ kept. c.are_rising.ensures.1 ((inner_order h).1 kept)))
