use Rattle.std.proofs.Common.{◌≡◌, ◌-◌, [], drop, ◌∙◌, subst, arith}
use Rattle.std.proofs.lemmas.List.{length-set}
use Rattle.hm_shell.proofs.HexLemmas.{fixed_is_hex16, fixed_onto, next_digit}
use Rattle.hm_shell.proofs.digits.hex_digits.Goals as goal

pub loop-done-preserved : goal.loop-done-preserved
loop-done-preserved c = (
  next_digit c.args.number c.loop-done.rest c.loop-done.digits c.loop-done.done c.hex_digit.result (omega (arith, c.loop-done-test.true))
      c.loop-done.invariant.1 c.hex_digit.ensures c.loop-done.invariant.0,
  length-set c.loop-done.digits (15 - c.loop-done.done) c.hex_digit.result ∙ c.loop-done.invariant.1,
)

pub returns : goal.returns
returns c =
    let all : c.loop-done.done ≡ 16 = omega (arith, c.loop-done-test.false, c.loop-done.auto.done-end) in
    let whole : fixed_onto 0 c.loop-done.rest (drop 0 c.loop-done.digits) ≡ fixed_onto 16 c.args.number [] =
    subst (λ i. fixed_onto (16 - i) c.loop-done.rest (drop (16 - i) c.loop-done.digits) ≡ fixed_onto 16 c.args.number []) all c.loop-done.invariant.0 in
    whole ∙ fixed_is_hex16 c.args.number (omega (arith, c.ranges.number.fits))
