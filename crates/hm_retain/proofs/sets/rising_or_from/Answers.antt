use Rattle.std.proofs.Common.{rules}
use Rattle.hm_retain.proofs.ListedLemmas.{IsListing-none, IsListing-end_begin, listing_begin, listing_skip, listing_end}
use Rattle.hm_retain.proofs.sets.rising_or_from.Goals as goal

pub loop-ids-init : goal.loop-ids-init
loop-ids-init c = rw c.new-set.ensures (IsListing-none c.args.ids.now c.args.from.0 c.requires)

pub add-requires-clause-rising : goal.add-requires-clause-rising
add-requires-clause-rising c = listing_begin _ _ c.loop-ids.ids.now _ c.loop-ids.set c.loop-ids.invariant c.in-len1-up.len_at_least

pub loop-ids-preserved : goal.loop-ids-preserved
loop-ids-preserved c = listing_skip _ _ c.loop-ids.ids.now (record { 0 = 0 }) c.loop-ids.set c.loop-ids.invariant c.in-len1-up.len_at_least (search rules)

pub add-requires-2-clause-rising : goal.add-requires-2-clause-rising
add-requires-2-clause-rising c = IsListing-end_begin _ _ c.loop-ids.ids.now c.loop-ids.set c.loop-ids.invariant

pub returns : goal.returns
returns c = listing_end c.args.ids.now c.args.from.0 c.loop-ids.ids.now _ _ c.loop-ids.invariant c.in_default.len_below c.in_ok-add-2.ensures
