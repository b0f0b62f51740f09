-- What is left to show of `hypothesis_place`.
use Rattle.std.proofs.Common.{◌≡◌, ◌-◌, sym, ◌∙◌, arith}
use Rattle.mmsyntax.proofs.DottedWords.{numbered_is}
use Rattle.scripts.proofs.HypothesisNumbers.{none_placed, some_placed}
use Rattle.scripts.proofs.script.numerals.hypothesis_place.Goals as goal

pub returns-in_err-k-clause-place : goal.returns-in_err-k-clause-place
returns-in_err-k-clause-place c = c.from_residual.ensures ∙ none_placed c.args.label.now c.args.word.now (sym c.in_err-k.ensures)

pub overflow_sub-result : goal.overflow_sub-result
overflow_sub-result c =
    let is = numbered_is c.args.label.now c.args.word.now c.in_ok-k.k (sym c.in_ok-k.ensures) in
    omega (arith, is.0)

pub returns-clause-place : goal.returns-clause-place
returns-clause-place c = some_placed c.args.label.now c.args.word.now c.in_ok-k.k (sym c.in_ok-k.ensures)

pub returns-clause-few : goal.returns-clause-few
returns-clause-few c = λ n h.
    let is = numbered_is c.args.label.now c.args.word.now c.in_ok-k.k (sym c.in_ok-k.ensures) in
    let same : c.in_ok-k.k - 1 ≡ n = cc in
    omega (arith, is.0, is.1)
