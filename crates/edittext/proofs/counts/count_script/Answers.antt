-- What is left to show of `count_script`: one transaction more, and that all were gone through.
use Rattle.std.proofs.Common.{◌∙◌, [], ◌∷◌, ◌++◌, ap, sym, take}
use Rattle.std.proofs.lemmas.List.{take_all}
use Rattle.edittext.specs.Counts.{counted}
use Rattle.edittext.proofs.Counting.{script_more}
use Rattle.edittext.proofs.counts.count_script.Goals as goal

pub loop-outcome-preserved : goal.loop-outcome-preserved
loop-outcome-preserved c before is =
    let outcomes = c.args.outcomes.now in
    let i = c.loop-outcome.outcome-index in
    c.with-counts.ensures (before ++ take i outcomes) (c.loop-outcome.invariant before is)
    ∙ ap (λ x. counted (before ++ take i outcomes ++ x ∷ [])) c.outcome-item.is
    ∙ ap counted (sym (script_more before outcomes i c.outcome-item.result c.loop-outcome-test.true))

pub returns : goal.returns
returns c before is =
    c.loop-outcome.invariant before is
    ∙ ap (λ os. counted (before ++ os)) (take_all c.loop-outcome.outcome-index c.args.outcomes.now c.loop-outcome-test.false)
