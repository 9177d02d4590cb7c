use Rattle.std.specs.Prelude.{◌≡◌, ◌+◌, true, slice_index}
use Rattle.std.specs.Char.{is_ascii_digit}
use Rattle.std.proofs.Common.{sym, ◌∙◌, arith}
use Rattle.std.proofs.lemmas.Int.Digits.{digits_value_more}
use Rattle.cue_script.proofs.ScriptLineLemmas.{number_not, number_large, digits_more, digit_less}
use Rattle.cue_script.proofs.line.number_in.Goals as goal

pub returns-then-not-is_ascii_digit-clause-number : goal.returns-then-not-is_ascii_digit-clause-number
returns-then-not-is_ascii_digit-clause-number c =
    sym (number_not c.args.most c.args.digits.now c.loop-digit.digit-index c.loop-digit-test.true
    (sym c.is_ascii_digit.ensures.value ∙ c.if-not-is_ascii_digit.true))

pub returns-in_err-checked_mul-clause-number : goal.returns-in_err-checked_mul-clause-number
returns-in_err-checked_mul-clause-number c =
    let next = digits_value_more 10 c.args.digits.now c.loop-digit.digit-index c.loop-digit-test.true in
    c.from_residual.ensures ∙ sym (number_large c.args.most c.args.digits.now (c.loop-digit.digit-index + 1)
    (omega (arith, next, c.in_err-checked_mul.ensures)))

pub returns-in_err-value-clause-number : goal.returns-in_err-value-clause-number
returns-in_err-value-clause-number c =
    let next = digits_value_more 10 c.args.digits.now c.loop-digit.digit-index c.loop-digit-test.true in
    let less = digit_less (slice_index c.args.digits.now c.loop-digit.digit-index) (sym c.is_ascii_digit.ensures.value
    ∙ c.if-not-is_ascii_digit.false) in
    c.from_residual-in_err-value.ensures
    ∙ sym (number_large c.args.most c.args.digits.now (c.loop-digit.digit-index + 1)
    (omega (arith, next, less, c.in_err-value.ensures)))

pub loop-digit-preserved : goal.loop-digit-preserved
loop-digit-preserved c =
    let digit : is_ascii_digit (slice_index c.args.digits.now c.loop-digit.digit-index) ≡ true =
    sym c.is_ascii_digit.ensures.value ∙ c.if-not-is_ascii_digit.false in
    let next = digits_value_more 10 c.args.digits.now c.loop-digit.digit-index c.loop-digit-test.true in
    let less = digit_less (slice_index c.args.digits.now c.loop-digit.digit-index) digit in
    record {
      all_digits = digits_more c.args.digits.now c.loop-digit.digit-index c.loop-digit-test.true
          c.loop-digit.invariant.all_digits digit;
      same_value = omega (arith, next, less);
    }
