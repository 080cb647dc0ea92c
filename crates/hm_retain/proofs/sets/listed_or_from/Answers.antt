use Rattle.std.proofs.lemmas.List.Sorted.{IsNonDecreasingBy-from_sort}
use Rattle.hm_types.specs.declared.id.Id.{Id}
use Rattle.hm_retain.proofs.ListedLemmas.{sorted_ids, ok_in_order}
use Rattle.hm_retain.proofs.sets.listed_or_from.Goals as goal

pub rising_or_from-requires : goal.rising_or_from-requires
rising_or_from-requires c = sorted_ids c.args.ids.now c.if-is_sorted.ensures.cases

pub rising_or_from-requires-2 : goal.rising_or_from-requires-2
rising_or_from-requires-2 c = rw c.deref.ensures.value (IsNonDecreasingBy-from_sort (λ (id : Id). id.0) _ c.sort_unstable.ensures.sorted)

pub returns : goal.returns
returns c =
    let moved = rw c.in_ok-sorted.ensures.items at c.sort_unstable.ensures.permutation in
    ok_in_order c.args.ids.now c.deref.result.now c.args.from.0 _ (rw c.deref.ensures.value moved) c.rising_or_from-2.ensures
