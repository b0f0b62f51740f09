-- What is left to show of `put_citation`.
use Rattle.std.proofs.Common.{ap, ◌∙◌}
use Rattle.std.specs.Prelude.{Some}
use Rattle.std.proofs.lemmas.Result.{MatchResult-weaker}
use Rattle.source.proofs.Counted.{hypothesis_step, assertion_step}
use Rattle.source.proofs.entries.Entries.put_citation.Goals as goal

pub returns-in-Hypothesis : goal.returns-in-Hypothesis
returns-in-Hypothesis c =
    MatchResult-weaker c.put.result c.put.ensures
    (λ goes puts earlier active w names.
    hypothesis_step earlier active w c.args.self.now c.put.new.self goes (names ∙ ap (λ x. Some x) c.in-Hypothesis.is) puts)
    (λ _ full. full)

pub returns-in-Assertion : goal.returns-in-Assertion
returns-in-Assertion c =
    MatchResult-weaker c.put-in-Assertion.result c.put-in-Assertion.ensures
    (λ goes puts earlier active w names.
    assertion_step earlier active w c.in-Assertion.hypotheses c.args.self.now c.put-in-Assertion.new.self goes
    (names ∙ ap (λ x. Some x) c.in-Assertion.is) puts)
    (λ _ full. full)
