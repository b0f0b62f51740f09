-- What is left to show of `take_code`.
use Rattle.std.proofs.Common.{sym, ap, subst}
use Rattle.std.proofs.lemmas.Result.{MatchResult-weaker}
use Rattle.source.specs.Proofs.{step_of}
use Rattle.source.specs.Counts.{IsStep}
use Rattle.source.proofs.Counted.{unknown_step}
use Rattle.source.proofs.entries.Entries.take_code.Goals as goal

pub returns-in-Mark : goal.returns-in-Mark
returns-in-Mark c =
    MatchResult-weaker c.mark.result c.mark.ensures
    (λ goes step earlier active labels e.
    subst (λ x. IsStep earlier active x c.args.self.now c.mark.new.self goes) (ap (step_of labels) (sym c.in-Mark.is))
    (step earlier active))
    (λ _ full. full)

pub returns-in-Unknown : goal.returns-in-Unknown
returns-in-Unknown c =
    MatchResult-weaker c.put.result c.put.ensures
    (λ goes puts earlier active labels e.
    subst (λ x. IsStep earlier active x c.args.self.now c.put.new.self goes) (ap (step_of labels) (sym c.in-Unknown.is))
    (unknown_step earlier active c.args.self.now c.put.new.self goes puts))
    (λ _ full. full)
