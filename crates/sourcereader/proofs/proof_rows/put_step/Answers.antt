-- What is left to show of `put_step`.
use Rattle.std.proofs.Common.{◌∙◌, Ok, sym, ap, subst}
use Rattle.mmtext.specs.Views.{seen}
use Rattle.source.specs.Counts.{CountsSteps}
use Rattle.source.specs.Views.{seen_words}
use Rattle.source.proofs.Slices.{one_more_word}
use Rattle.sourcereader.specs.Takings.{one_more}
use Rattle.sourcereader.proofs.proof_rows.put_step.Goals as goal

pub returns-in-Some-clause-puts : goal.returns-in-Some-clause-puts
returns-in-Some-clause-puts g c =
    let ws = seen_words c.args.normal.now.steps.items in
    let told = c.in_ok-kind.ensures ws c.requires in
    rw c.fault_at.ensures (ap (one_more (seen c.args.token) ws) (sym told.0 ∙ c.in-Some.is))

pub returns-clause-puts : goal.returns-clause-puts
returns-clause-puts g c =
    let ws = seen_words c.args.normal.now.steps.items in
    let told = c.in_ok-kind.ensures ws c.requires in
    ap (one_more (seen c.args.token) ws) (sym told.0 ∙ c.in_default.is)
    ∙ ap (λ x. Ok x) (sym (ap seen_words c.in_ok-push.ensures.items ∙ one_more_word c.args.normal.now.steps.items c.args.token.text))

pub returns-clause-counted : goal.returns-clause-counted
returns-clause-counted g c =
    let s = (g.S.Standing.stand c.args.standing.now).scope in
    let ws = seen_words c.args.normal.now.steps.items in
    let told = c.in_ok-kind.ensures ws c.requires in
    subst (λ x. CountsSteps s x c.step_fault.new.entries)
    (sym (ap seen_words c.in_ok-push.ensures.items ∙ one_more_word c.args.normal.now.steps.items c.args.token.text))
    (told.1 c.in_default.is)
