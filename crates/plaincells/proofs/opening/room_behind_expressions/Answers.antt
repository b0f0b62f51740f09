use Rattle.std.proofs.Common.{◌≡◌, ◌<◌, ◌≤◌, ◌+◌, List, length, sym, ap, subst, arith, MatchOption}
use Rattle.mmsyntax.specs.declared.statement.Symbol.{Symbol}
use Rattle.bodystore.specs.Bodies.{expressions_words}
use Rattle.plaincells.proofs.Lengths.{too_little, enough}
use Rattle.plaincells.proofs.opening.room_behind_expressions.Goals as goal

pub returns-in_err-checked_sub : goal.returns-in_err-checked_sub
returns-in_err-checked_sub c =
    let es : List (List Symbol) = c.args.expressions.now in
    let e : List Symbol = c.expression-item.result in
    let none : 1 ≤ c.loop-expression.left → ⊥ = c.in_err-checked_sub.ensures in
    subst (λ o. MatchOption o (c.args.room < length (expressions_words es)) (λ left. left + length (expressions_words es) ≡ c.args.room))
    (sym c.from_residual.ensures)
    (too_little es c.loop-expression.expression-index c.loop-expression.left c.args.room e (omega arith) c.expression-item.is
    c.loop-expression.invariant (omega (arith, none)))

pub returns-in_err-left : goal.returns-in_err-left
returns-in_err-left c =
    let es : List (List Symbol) = c.args.expressions.now in
    let e : List Symbol = c.expression-item.result in
    let long : length c.as_slice.result.now ≡ length e = ap (λ (x : List Symbol). length x) c.as_slice.ensures in
    let none : length c.as_slice.result.now ≤ c.in_ok-checked_sub.field-0 → ⊥ = c.in_err-left.ensures in
    subst (λ o. MatchOption o (c.args.room < length (expressions_words es)) (λ left. left + length (expressions_words es) ≡ c.args.room))
    (sym c.from_residual-in_err-left.ensures)
    (too_little es c.loop-expression.expression-index c.loop-expression.left c.args.room e (omega arith) c.expression-item.is
    c.loop-expression.invariant (omega (arith, none, long, c.in_ok-checked_sub.ensures.0, c.in_ok-checked_sub.ensures.1)))

pub loop-expression-preserved : goal.loop-expression-preserved
loop-expression-preserved c =
    let e : List Symbol = c.expression-item.result in
    let long : length c.as_slice.result.now ≡ length e = ap (λ (x : List Symbol). length x) c.as_slice.ensures in
    enough c.args.expressions.now c.loop-expression.expression-index c.loop-expression.left c.in_ok-left.left c.args.room e (omega arith)
    c.expression-item.is c.loop-expression.invariant
    (omega (arith, long, c.in_ok-left.ensures.0, c.in_ok-left.ensures.1, c.in_ok-checked_sub.ensures.0, c.in_ok-checked_sub.ensures.1))
