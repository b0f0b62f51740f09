-- What is left to show of `count`.
use Rattle.std.proofs.Common.{◌+◌, ◌∙◌, arith}
use Rattle.mmsyntax.proofs.Numerals.{one_more_digit, digit_here, too_high, written}
use Rattle.mmsyntax.proofs.numeral.count.Goals as goal

pub returns-in_err-checked_mul : goal.returns-in_err-checked_mul
returns-in_err-checked_mul c =
    let ds = c.args.digits.now in
    let i = c.loop-digit.digit-index in
    let more = one_more_digit ds i c.requires c.loop-digit-test.true in
    let high = c.in_err-checked_mul.ensures in
    let so_far = c.loop-digit.invariant.value in
    c.from_residual.ensures ∙ too_high 18446744073709551615 ds (i + 1) (omega arith)

pub overflow_sub-digit : goal.overflow_sub-digit
overflow_sub-digit c = digit_here c.args.digits.now c.loop-digit.digit-index c.requires c.loop-digit-test.true

pub returns-in_err-number : goal.returns-in_err-number
returns-in_err-number c =
    let ds = c.args.digits.now in
    let i = c.loop-digit.digit-index in
    let more = one_more_digit ds i c.requires c.loop-digit-test.true in
    let times = c.in_ok-checked_mul.ensures.1 in
    let digit = c.from.ensures in
    let high = c.in_err-number.ensures in
    let so_far = c.loop-digit.invariant.value in
    c.from_residual-in_err-number.ensures ∙ too_high 18446744073709551615 ds (i + 1) (omega arith)

pub loop-digit-preserved : goal.loop-digit-preserved
loop-digit-preserved c =
    let ds = c.args.digits.now in
    let i = c.loop-digit.digit-index in
    let more = one_more_digit ds i c.requires c.loop-digit-test.true in
    let times = c.in_ok-checked_mul.ensures.1 in
    let digit = c.from.ensures in
    let sum = c.in_ok-number.ensures.1 in
    let so_far = c.loop-digit.invariant.value in
    record { value = omega arith; small = omega (arith, c.in_ok-number.ensures.0) }

pub returns : goal.returns
returns c =
    written 18446744073709551615 c.args.digits.now c.loop-digit.digit-index c.loop-digit.number c.loop-digit-test.false
    c.loop-digit.invariant.value
    (omega (arith, c.loop-digit.invariant.small))
