-- What is left to show of `count_labels`.
use Rattle.std.proofs.Common.{◌∙◌, sym, ap, subst}
use Rattle.source.specs.Statements.{Proof, normal}
use Rattle.source.specs.Views.{seen_words, seen_proof, seen_hypotheses}
use Rattle.taking.specs.Counted.{IsCounted}
use Rattle.taking.proofs.counting.count_labels.Goals as goal

pub returns-in-Normal : goal.returns-in-Normal
returns-in-Normal c =
    let hs = seen_hypotheses c.args.mandatory.items in
    subst (λ (p : Proof). IsCounted hs p c.in_ok-count_normal-in-Normal.field-0)
    (ap (λ ws. normal (seen_words ws)) c.as_slice.ensures.value ∙ sym (ap seen_proof c.in-Normal.is))
    (c.in_ok-count_normal-in-Normal.ensures hs)
