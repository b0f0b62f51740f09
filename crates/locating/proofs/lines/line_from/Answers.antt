-- What is left to show of `line_from`.
use Rattle.std.proofs.Common.{◌∙◌, ◌-◌, ap, drop, arith, length-drop}
use Rattle.std.proofs.lemmas.List.{take_rest}
use Rattle.locating.specs.Lines.{line_at}
use Rattle.locating.proofs.Lined.{line_most, line_further}
use Rattle.locating.proofs.lines.line_from.Goals as goal

pub overflow_add-result : goal.overflow_add-result
overflow_add-result c =
    let text = c.args.text.now in
    let first = line_most text c.args.at in
    let second = line_most (drop c.args.at text) (c.args.place - c.args.at) in
    let long = length-drop c.args.at text in
    let here = c.line_at-2.ensures ∙ ap (λ xs. line_at xs (c.args.place - c.args.at)) (take_rest text c.args.at) in
    omega arith

pub returns : goal.returns
returns c =
    let text = c.args.text.now in
    let far = line_further text c.args.at c.args.place c.if-place-at.false in
    let here = c.line_at-2.ensures ∙ ap (λ xs. line_at xs (c.args.place - c.args.at)) (take_rest text c.args.at) in
    omega arith
