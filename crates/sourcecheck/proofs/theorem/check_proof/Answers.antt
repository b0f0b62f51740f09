-- What is left to show of `check_proof`.
use Rattle.std.proofs.Common.{◌≡◌, Option, Some, None, map, take, sym, ap, subst, ◌∙◌}
use Rattle.std.specs.Prelude.{MatchOption}
use Rattle.std.specs.Option.{option_map}
use Rattle.source.specs.Scopes.{Assertion}
use Rattle.source.specs.Proofs.{step_of, steps_of}
use Rattle.source.specs.Views.{seen_words, seen_proof, seen_hypotheses}
use Rattle.taking.proofs.Numbering.{codes_there}
use Rattle.taking.specs.declared.counting.Counted.{Counted}
use Rattle.taking.specs.Counted.{IsCounted}
use Rattle.sourcecheck.proofs.Told.{proof_told}
use Rattle.sourcecheck.proofs.theorem.check_proof.Goals as goal

pub returns-in-Ok-Some-clause-tells : goal.returns-in-Ok-Some-clause-tells
returns-in-Ok-Some-clause-tells g c = λ x at finished.
    let own = seen_proof c.args.proof.now in
    let made = c.in-Ok-Some.counted in
    let hs = seen_hypotheses c.in-Ok.mandatory.items in
    let counted : IsCounted hs own made =
    subst (λ (o : Option Counted). MatchOption o (steps_of hs own ≡ None) (IsCounted hs own)) c.in-Ok-Some.field-0-is
    c.in-Ok-Some.ensures in
    let labels = seen_words made.labels.items in
    let hypotheses : Some x.hypotheses ≡ Some hs =
    sym (ap (option_map (λ (a : Assertion). a.hypotheses)) at) ∙ c.in-Ok.ensures in
    let same : x.hypotheses ≡ hs = cc in
    let steps : steps_of x.hypotheses own ≡ Some (map (step_of labels) made.codes) =
    ap (λ ks. steps_of ks own) same ∙ counted.steps_are in
    proof_told (take c.args.place (g.D.Declared.scope c.args.declared.now).assertions) x own (map (step_of labels) made.codes) steps
    c.check_counted.result
    (c.check_counted.ensures.tells x at (codes_there x.hypotheses own labels made.codes finished steps))
