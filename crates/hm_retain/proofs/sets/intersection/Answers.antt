use Rattle.std.proofs.Common.{rules}
use Rattle.hm_retain.proofs.WalkLemmas.{shared_begin, shared_left, shared_right}
use Rattle.hm_retain.proofs.sets.intersection.Goals as goal

pub add_shared-requires : goal.add_shared-requires
add_shared-requires c = shared_begin _ _ c.loop-a.a.now c.loop-a.b.now _ c.loop-a.set c.loop-a.invariant c.in-len1-up.len_at_least c.in-len1-up-b.len_at_least

pub loop-a-preserved-then-lt : goal.loop-a-preserved-then-lt
loop-a-preserved-then-lt c = shared_left _ _ c.loop-a.a.now c.loop-a.b.now _ c.loop-a.set _ c.loop-a.invariant c.in-len1-up.len_at_least
    c.in-len1-up-b.len_at_least c.in_ok-add_shared.ensures (search rules)

pub loop-a-preserved : goal.loop-a-preserved
loop-a-preserved c = shared_right _ _ c.loop-a.a.now c.loop-a.b.now _ c.loop-a.set _ c.loop-a.invariant c.in-len1-up.len_at_least
    c.in-len1-up-b.len_at_least c.in_ok-add_shared.ensures (search rules)
