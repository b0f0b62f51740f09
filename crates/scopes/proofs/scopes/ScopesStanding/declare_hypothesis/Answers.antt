-- What is left to show of `declare_hypothesis`.
use Rattle.source.specs.Statements.{hypothesis}
use Rattle.source.specs.Views.{seen_words}
use Rattle.scopes.specs.Views.{kept_of}
use Rattle.scopes.proofs.Seeing.{lawful_there}
use Rattle.scopes.proofs.scopes.ScopesStanding.declare_hypothesis.Goals as goal

pub add_premise-requires-clause-lawful : goal.add_premise-requires-clause-lawful
add_premise-requires-clause-lawful c =
    lawful_there (kept_of c.take-tables.result) c.args.self.now.stand
    (hypothesis c.args.label.now (seen_words c.args.expression.items)) c.take-tables.ensures.stand c.requires
