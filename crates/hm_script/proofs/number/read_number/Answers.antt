use Rattle.std.proofs.Common.{◌≡◌, ◌<◌, ℕ, get_or, take, length, ◌+◌, sym, refl, ◌∙◌, ap, subst, arith}
use Rattle.std.specs.Char.{digit_value}
use Rattle.std.specs.Str.Parse.{AllDigits, digits_value}
use Rattle.std.proofs.lemmas.Bool.{false≢true}
use Rattle.std.proofs.lemmas.Bool.Decides.{nat_tests}
use Rattle.std.proofs.lemmas.Int.Digits.{digits_more, digits_value_more}
use Rattle.std.proofs.Math.Seq.{take-length}
use Rattle.hm_script.proofs.NumberLemmas.{no_number-empty, no_number-zero, no_number-digit, no_number-large, number_of_digits}
use Rattle.hm_script.proofs.number.read_number.Goals as goal
use Rattle.hm_script.proofs.number.read_number.Goals.{then-is_empty-via-then-is_empty, then-is_empty-via-else-is_empty+then-has_leading_zero}

pub returns-then-is_empty : goal.returns-then-is_empty
returns-then-is_empty c =
    elim c.then-is_empty.branch [
      | then-is_empty-via-then-is_empty w ↦ no_number-empty c.args.word.now (grind (arith, nat_tests, c.is_empty.ensures, w.if-is_empty))
      | then-is_empty-via-else-is_empty+then-has_leading_zero w ↦
          let zero = w.if-has_leading_zero.ensures.0 refl in
          no_number-zero c.args.word.now zero.1 zero.0
    ]

pub returns-in_err-value : goal.returns-in_err-value
returns-in_err-value c =
    let P : ℕ → Type 0 = λ x. digit_value x < 10 in
    rw c.from_residual.ensures (no_number-digit c.args.word.now c.loop-digit.digit-index c.loop-digit-test.true
    (λ is. c.in_err-value.ensures.value (subst P (sym c.from.ensures) is)))

pub returns-in_err-checked_mul : goal.returns-in_err-checked_mul
returns-in_err-checked_mul c =
    let step = digits_value_more 10 c.args.word.now c.loop-digit.digit-index c.loop-digit-test.true in
    rw c.from_residual-in_err-checked_mul.ensures (no_number-large c.args.word.now (c.loop-digit.digit-index + 1)
    (digits_value 10 (take (c.loop-digit.digit-index + 1) c.args.word.now)) refl
    (omega (arith, step, c.loop-digit.invariant.value, c.in_err-checked_mul.ensures)))

pub returns-in_err-number : goal.returns-in_err-number
returns-in_err-number c =
    let step = digits_value_more 10 c.args.word.now c.loop-digit.digit-index c.loop-digit-test.true in
    let same : c.in_ok-value.value ≡ digit_value (get_or c.args.word.now c.loop-digit.digit-index 0) =
    c.in_ok-value.ensures.value.1 ∙ ap digit_value c.from.ensures in
    rw c.from_residual-in_err-number.ensures (no_number-large c.args.word.now (c.loop-digit.digit-index + 1)
    (digits_value 10 (take (c.loop-digit.digit-index + 1) c.args.word.now)) refl
    (omega (arith, step, same, c.loop-digit.invariant.value, c.in_err-number.ensures, c.in_ok-checked_mul.ensures, c.from-in-loop-digit.ensures)))

pub loop-digit-preserved : goal.loop-digit-preserved
loop-digit-preserved c =
    let P : ℕ → Type 0 = λ x. digit_value x < 10 in
    let step = digits_value_more 10 c.args.word.now c.loop-digit.digit-index c.loop-digit-test.true in
    let same : c.in_ok-value.value ≡ digit_value (get_or c.args.word.now c.loop-digit.digit-index 0) =
    c.in_ok-value.ensures.value.1 ∙ ap digit_value c.from.ensures in
    record {
      each = digits_more 10 c.args.word.now c.loop-digit.digit-index c.loop-digit-test.true c.loop-digit.invariant.each
          (subst P c.from.ensures c.in_ok-value.ensures.value.0);
      small = omega (arith, c.in_ok-number.ensures);
      value = omega (arith, step, same, c.loop-digit.invariant.value, c.in_ok-number.ensures, c.in_ok-checked_mul.ensures, c.from-in-loop-digit.ensures);
    }

pub returns : goal.returns
returns c =
    let end : c.loop-digit.digit-index ≡ length c.args.word.now = omega arith in
    let all : take c.loop-digit.digit-index c.args.word.now ≡ c.args.word.now = rw end (take-length c.args.word.now) in
    let some : 0 < length c.args.word.now = grind (arith, nat_tests, c.is_empty.ensures, c.if-is_empty.false) in
    let plain : get_or c.args.word.now 0 0 ≡ 48 → length c.args.word.now ≡ 1 = λ zero.
    let short : 1 < length c.args.word.now → ⊥ = λ more. false≢true (c.if-has_leading_zero.ensures.1 (more, zero)) in
    omega (arith, short) in
    number_of_digits c.args.word.now c.loop-digit.number (subst (AllDigits 10) all c.loop-digit.invariant.each) some plain
    (c.loop-digit.invariant.value ∙ ap (digits_value 10) all) c.loop-digit.invariant.small
