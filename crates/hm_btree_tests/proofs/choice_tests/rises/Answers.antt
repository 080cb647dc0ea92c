use Rattle.std.proofs.Common.{IsTrue, Bool, true, false, true≢false, sym}
use Rattle.std.specs.Prelude.{MatchBool}
use Rattle.std.proofs.lemmas.List.Sorted.{non_decreasing_from_is_sorted}
use Rattle.hm_btree_tests.proofs.choice_tests.rises.Goals as goal

-- what is so of a test that passed
passed : {P : Type 0} (Q : Type 0) (b : Bool) → MatchBool b P Q → IsTrue b → P
passed Q true match is = match
passed Q false match is = absurd (true≢false (sym is))

pub returns : goal.returns
returns c =
    passed _ c.is_sorted.result (non_decreasing_from_is_sorted c.args.chosen.now c.is_sorted.result c.is_sorted.ensures.cases)
