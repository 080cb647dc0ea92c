use Rattle.std.proofs.Common.{ℕ, List, subst, ◌≡◌, ◌∙◌, sym, ap, arith, length}
use Rattle.std.specs.Prelude.{nat_eq}
use Rattle.std.specs.List.{IsDistinct}
use Rattle.std.specs.Set.{is_member}
use Rattle.std.proofs.lemmas.Map.Keys.{IsDistinct-IsPermutation, IsStrictlyIncreasing-from_distinct}
use Rattle.std.proofs.lemmas.List.Sorted.{length_permutation, list_any-IsPermutation, IsNonDecreasingBy-from_sort}
use Rattle.std.proofs.lemmas.Bool.Decides.{nat_tests}
use Rattle.hm_pages.proofs.ListedLemmas.{page_keys, length-page_keys, distinct-page_keys, member-page_keys, listed_page, listed_none, listed_all}
use Rattle.hm_pages.proofs.changes.Changes.page_places.Goals as goal

pub loop-at-preserved-in-Continue-branch-2 : goal.loop-at-preserved-in-Continue-branch-2
loop-at-preserved-in-Continue-branch-2 c =
    listed_page c.loop-at.list.items c.push.new.self.items c.loop-at.at-iterator c.next.new.self (c.in-Some.at.now, c.in-Some.change.now)
    c.in-Some.ensures.steps (sym c.is_some.ensures ∙ c.if-is_some.true) c.in_ok-push.ensures.items ∙ c.loop-at.invariant

pub loop-at-preserved : goal.loop-at-preserved
loop-at-preserved c =
    listed_none c.loop-at.list.items c.loop-at.at-iterator c.next.new.self (c.in-Some.at.now, c.in-Some.change.now)
    c.in-Some.ensures.steps (sym c.is_some.ensures ∙ c.if-is_some.false) ∙ c.loop-at.invariant

-- the list before it is sorted
listed : (c : goal.After-sort_unstable) → c.loop-at.list.items ≡ page_keys c.args.self.now.places.entries
listed c = listed_all c.loop-at.list.items c.loop-at.at-iterator c.args.self.now.places.entries c.loop-at.invariant c.in-None.ensures.steps.0

pub returns-clause-rising : goal.returns-clause-rising
returns-clause-rising c =
    let keys = page_keys c.args.self.now.places.entries in
    let distinct = distinct-page_keys c.args.self.now.places.entries c.into_iter-at-iterator.ensures.into_iter_gives.4 in
    let before = subst (λ (ks : List ℕ). IsDistinct nat_eq ks) (sym (listed c)) distinct in
    let after = IsDistinct-IsPermutation nat_eq (λ x y. grind (arith, nat_tests))
    c.loop-at.list.items c.sort_unstable.new.self.items c.sort_unstable.ensures.permutation before in
    IsStrictlyIncreasing-from_distinct c.sort_unstable.new.self.items
    (IsNonDecreasingBy-from_sort (λ x. x) c.sort_unstable.new.self.items c.sort_unstable.ensures.sorted) after

pub returns-clause-each : goal.returns-clause-each
returns-clause-each c = λ at.
    sym (list_any-IsPermutation (nat_eq at) c.loop-at.list.items c.sort_unstable.new.self.items c.sort_unstable.ensures.permutation) ∙
    ap (λ (ks : List ℕ). is_member nat_eq ks at) (listed c) ∙
    member-page_keys at c.args.self.now.places.entries c.into_iter-at-iterator.ensures.into_iter_gives.4

pub returns-clause-len : goal.returns-clause-len
returns-clause-len c =
    length_permutation c.loop-at.list.items c.sort_unstable.new.self.items c.sort_unstable.ensures.permutation ∙
    ap length (listed c) ∙ length-page_keys c.args.self.now.places.entries ∙ sym c.args.self.now.counted
