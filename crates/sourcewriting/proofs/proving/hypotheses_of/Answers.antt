use Rattle.sourcewriting.proofs.Mandatory.{one_more_hypothesis}
use Rattle.sourcewriting.proofs.proving.hypotheses_of.Goals as goal

pub loop-hypothesis-preserved : goal.loop-hypothesis-preserved
loop-hypothesis-preserved g c =
    let l = c.loop-hypothesis in
    let named = c.label_of-is_premise in
    one_more_hypothesis l.yielded c.in-Some.hypothesis l.hypotheses c.push.new.self named.result.0.now named.result.1 l.invariant
    named.ensures.label named.ensures.premise c.in_ok-push.ensures.mandatory c.in_ok-push.ensures.premises
