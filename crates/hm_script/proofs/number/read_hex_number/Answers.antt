use Rattle.std.proofs.Common.{◌≡◌, ℕ, ◌<◌, get_or, refl, ◌∙◌, ap, sym, subst, arith}
use Rattle.std.specs.Char.{digit_value}
use Rattle.std.proofs.lemmas.Int.Digits.{digits_more, digits_value_more}
use Rattle.hm_script.proofs.NumberLemmas.{room_for_digit, no_hex-digit}
use Rattle.hm_script.proofs.number.read_hex_number.Goals as goal

pub overflow_mul-number : goal.overflow_mul-number
overflow_mul-number c =
    let room = room_for_digit c.args.word.now c.loop-digit.digit-index (omega arith) (omega arith) c.loop-digit.invariant.each in
    omega (arith, room)

pub returns-in_err-to_digit : goal.returns-in_err-to_digit
returns-in_err-to_digit c =
    let P : ℕ → Type 0 = λ x. digit_value x < 16 in
    rw c.from_residual.ensures (no_hex-digit c.args.size c.args.word.now c.loop-digit.digit-index c.loop-digit-test.true
    (λ is. c.in_err-to_digit.ensures.value (subst P (sym c.from.ensures) is)))

pub overflow_add-number : goal.overflow_add-number
overflow_add-number c =
    let room = room_for_digit c.args.word.now c.loop-digit.digit-index (omega arith) (omega arith) c.loop-digit.invariant.each in
    let small : c.in_ok-to_digit.field-0 < 16 = rw c.in_ok-to_digit.ensures.value.1 c.in_ok-to_digit.ensures.value.0 in
    omega (arith, room, small)

pub loop-digit-preserved : goal.loop-digit-preserved
loop-digit-preserved c =
    let P : ℕ → Type 0 = λ x. digit_value x < 16 in
    let same : c.from-in-loop-digit.result ≡ digit_value (get_or c.args.word.now c.loop-digit.digit-index 0) =
    c.from-in-loop-digit.ensures ∙ (c.in_ok-to_digit.ensures.value.1 ∙ ap digit_value c.from.ensures) in
    record {
      each = digits_more 16 c.args.word.now c.loop-digit.digit-index c.loop-digit-test.true c.loop-digit.invariant.each
          (subst P c.from.ensures c.in_ok-to_digit.ensures.value.0);
      value = rw (digits_value_more 16 c.args.word.now c.loop-digit.digit-index c.loop-digit-test.true, ← c.loop-digit.invariant.value, same) refl;
    }
