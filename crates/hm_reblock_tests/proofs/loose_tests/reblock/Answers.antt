use Rattle.std.proofs.Common.{◌≡◌, rules, true, false, true≢false, Bool, sym, subst}
use Rattle.std.specs.Prelude.{MatchBool}
use Rattle.std.specs.List.Sorted.{IsNonDecreasing}
use Rattle.std.proofs.lemmas.List.Sorted.{non_decreasing_from_is_sorted}
use Rattle.hm_reblock_tests.proofs.loose_tests.reblock.Goals as goal

when_true : (b : Bool) (P Q : Type 0) → MatchBool b P Q → b ≡ true → P
when_true true P Q cases is = cases
when_true false P Q cases is = absurd (true≢false (sym is))

pub new-requires : goal.new-requires
new-requires c =
    let cases = non_decreasing_from_is_sorted c.args.chosen.now c.is_sorted.result c.is_sorted.ensures.cases in
    let sorted : c.is_sorted.result ≡ true = search rules in
    subst IsNonDecreasing (sym c.in_ok-blocks.ensures.items) (when_true c.is_sorted.result (IsNonDecreasing c.args.chosen.now) _ cases sorted)
