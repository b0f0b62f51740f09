use Rattle.std.proofs.Common.{◌∙◌, sym, ap, subst, Option}
use Rattle.std.specs.Option.{option_and_then}
use Rattle.source.specs.Scopes.{Assertion}
use Rattle.sourcewriting.specs.Forms.{is_compressed_form}
use Rattle.sourcewriting.specs.Leaving.{CanBePutWith}
use Rattle.sourcewriting.proofs.proving.proof_text.Goals as goal

pub returns-clause-marked : goal.returns-clause-marked
returns-clause-marked g c = λ a at is.
    let form = c.is_compressed_like-is_compressed.ensures ∙ ap is_compressed_form c.proof.ensures
    ∙ ap (λ (o : Option Assertion). is_compressed_form (option_and_then (λ a. a.proof) o)) at ∙ is in
    c.text_of.ensures.marked a.hypotheses (c.in_ok-hypotheses.ensures a at) form

pub returns-clause-some : goal.returns-clause-some
returns-clause-some g c = λ a at can.
    let form = c.is_compressed_like-is_compressed.ensures ∙ ap is_compressed_form c.proof.ensures
    ∙ ap (λ (o : Option Assertion). is_compressed_form (option_and_then (λ a. a.proof) o)) at in
    c.text_of.ensures.some a.hypotheses (c.in_ok-hypotheses.ensures a at)
    (subst (λ b. CanBePutWith (g.D.Declared.scope c.args.declared.now) c.args.names.now b a.hypotheses c.args.steps.now) (sym form) can)
