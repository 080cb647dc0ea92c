use Rattle.std.proofs.Common.{◌≡◌, ℕ, ◌<◌, Some, get_or, length, sym, ◌∙◌, refl, ap, subst, arith}
use Rattle.std.specs.Char.{digit_value}
use Rattle.std.proofs.lemmas.Bool.Decides.{Decides-eqb}
use Rattle.std.proofs.lemmas.Int.Digits.{digits_more, digits_value_more}
use Rattle.std.proofs.lemmas.Slice.Eq.{strip_prefix_is}
use Rattle.hm_path.specs.Component.{id_sign}
use Rattle.hm_path.proofs.IdLemmas.{room_for_digit, no_id-digit}
use Rattle.hm_path.proofs.id.read_id.Goals as goal

pub overflow_mul-number : goal.overflow_mul-number
overflow_mul-number c =
    let few : length c.in_ok-digits.digits.now ≡ 16 = omega (arith, c.in_ok-digits.ensures.cases.2) in
    let room = room_for_digit c.in_ok-digits.digits.now c.loop-digit.digit-index (omega arith) (omega arith) c.loop-digit.invariant.each in
    omega (arith, room)

pub returns-in_err-to_digit : goal.returns-in_err-to_digit
returns-in_err-to_digit c =
    let written = strip_prefix_is Decides-eqb c.args.text.now id_sign (Some c.in_ok-digits.digits) c.in_ok-digits.ensures.cases in
    let P : ℕ → Type 0 = λ x. digit_value x < 16 in
    let none = no_id-digit c.args.text.now c.in_ok-digits.digits.now c.loop-digit.digit-index written c.loop-digit-test.true
    (λ is. c.in_err-to_digit.ensures.value (subst P (sym c.from.ensures) is)) in
    rw c.from_residual-in_err-to_digit.ensures none

pub overflow_add-number : goal.overflow_add-number
overflow_add-number c =
    let few : length c.in_ok-digits.digits.now ≡ 16 = omega (arith, c.in_ok-digits.ensures.cases.2) in
    let room = room_for_digit c.in_ok-digits.digits.now c.loop-digit.digit-index (omega arith) (omega arith) c.loop-digit.invariant.each in
    let small : c.in_ok-to_digit.field-0 < 16 = rw c.in_ok-to_digit.ensures.value.1 c.in_ok-to_digit.ensures.value.0 in
    omega (arith, room, small)

pub loop-digit-preserved : goal.loop-digit-preserved
loop-digit-preserved c =
    let P : ℕ → Type 0 = λ x. digit_value x < 16 in
    let same : c.from-in-loop-digit.result ≡ digit_value (get_or c.in_ok-digits.digits.now c.loop-digit.digit-index 0) =
    c.from-in-loop-digit.ensures ∙ (c.in_ok-to_digit.ensures.value.1 ∙ ap digit_value c.from.ensures) in
    record {
      each = digits_more 16 c.in_ok-digits.digits.now c.loop-digit.digit-index c.loop-digit-test.true c.loop-digit.invariant.each
          (subst P c.from.ensures c.in_ok-to_digit.ensures.value.0);
      value = rw (digits_value_more 16 c.in_ok-digits.digits.now c.loop-digit.digit-index c.loop-digit-test.true, ← c.loop-digit.invariant.value, same) refl;
    }
