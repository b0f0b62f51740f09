-- What is left to show of `declare_theorem`.
use Rattle.std.proofs.Common.{◌≡◌, ◌∙◌, Some, ap, sym}
use Rattle.source.specs.Counts.{mandatory_marks}
use Rattle.source.specs.Statements.{asserted}
use Rattle.source.specs.Views.{seen_words, seen_proof}
use Rattle.scopes.specs.Views.{kept_of, scope_of, stand_of}
use Rattle.scopes.proofs.Seeing.{stand_scope, lawful_there, asserted_there}
use Rattle.scopes.proofs.scopes.ScopesStanding.declare_theorem.Goals as goal

pub add_asserted-requires-clause-lawful : goal.add_asserted-requires-clause-lawful
add_asserted-requires-clause-lawful c =
    let stands : stand_of (kept_of c.take-tables.result) ≡ c.args.self.now.stand =
    c.take-tables.ensures.stand in
    lawful_there (kept_of c.take-tables.result) c.args.self.now.stand
    (asserted c.args.label.now (seen_words c.args.expression.items)) stands
    c.requires.lawful

pub add_asserted-requires-clause-marks : goal.add_asserted-requires-clause-marks
add_asserted-requires-clause-marks c =
    let ws = seen_words c.args.expression.items in
    let stands : scope_of (kept_of c.take-tables.result) ≡ c.args.self.now.stand.scope =
    stand_scope (kept_of c.take-tables.result) c.args.self.now.stand c.take-tables.ensures.stand in
    c.take-tables.ensures.marks ∙ c.requires.marks ∙ ap (λ s. mandatory_marks s ws) (sym stands)

pub returns : goal.returns
returns c =
    let stands : stand_of (kept_of c.take-tables.result) ≡ c.args.self.now.stand =
    c.take-tables.ensures.stand in
    c.in_ok-add_asserted.ensures.stand
    ∙ asserted_there (kept_of c.take-tables.result) c.args.self.now.stand c.args.label.now (seen_words c.args.expression.items)
    (Some (seen_proof c.args.proof)) stands
