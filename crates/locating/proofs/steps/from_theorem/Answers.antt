-- What is left to show of `from_theorem`.
use Rattle.std.proofs.Common.{◌∙◌, ◌<◌, ap, map, length, arith}
use Rattle.std.proofs.lemmas.List.{take_rest, drop_all, length-map}
use Rattle.mmtext.specs.Views.{seen}
use Rattle.locating.proofs.Ended.{no_theorem}
use Rattle.locating.proofs.steps.from_theorem.Goals as goal

pub returns : goal.returns
returns c =
    let words = c.args.words.now in
    let few : length (map seen c.loop-rest.rest.now) < 2 = omega (arith, length-map c.loop-rest.rest.now seen) in
    ap (map seen) (take_rest words (length words) ∙ drop_all (length words) words (omega arith))
    ∙ (no_theorem c.args.label.now (map seen c.loop-rest.rest.now) few ∙ c.loop-rest.invariant)
