use Rattle.std.proofs.Common.{arith, refl}
use Rattle.std.proofs.lemmas.List.{length-drop}
use Rattle.hm_script.proofs.LineLemmas.{all_lines, ended_more, first_of, rest_is}
use Rattle.hm_script.proofs.lines.first_lines.Goals as goal

pub lines-init : goal.lines-init
lines-init c = record { within = omega arith; ended = λ rest. refl; fewer = omega arith; passed = omega arith }

pub returns-in_default-clause-texts : goal.returns-in_default-clause-texts
returns-in_default-clause-texts c =
    all_lines c.args.script.now c.lines.end c.args.count c.lines.left c.lines.invariant.ended c.lines.invariant.passed c.lines.invariant.fewer
    c.lines-test.true (rw (rest_is c.lines.end c.args.script.now) at c.in_default.ensures)

pub lines-preserved : goal.lines-preserved
lines-preserved c =
    let found = rw (rest_is c.lines.end c.args.script.now) at c.in-Some.ensures in
    let more = ended_more c.args.script.now c.lines.end c.in-Some.length c.lines.invariant.within c.lines.invariant.ended found.0 found.1 in
    record {
      within = omega (arith, c.lines.invariant.within, found.0.high, length-drop c.lines.end c.args.script.now);
      ended = more.0;
      fewer = omega (arith, c.lines.invariant.fewer);
      passed = omega (arith, more.1, c.lines.invariant.passed, c.lines.invariant.fewer, c.lines-test.true);
    }

pub returns-clause-texts : goal.returns-clause-texts
returns-clause-texts c =
    first_of c.args.script.now c.lines.end c.args.count c.lines.left c.lines.invariant.ended c.lines.invariant.passed (omega (arith, c.lines-test))
