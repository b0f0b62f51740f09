-- What is left to show of `declare_variable`.
use Rattle.source.specs.Tests.{a_variable}
use Rattle.scopes.specs.Views.{kept_of}
use Rattle.scopes.proofs.Seeing.{lawful_there}
use Rattle.scopes.proofs.scopes.ScopesStanding.declare_variable.Goals as goal

pub add_variable-requires-clause-lawful : goal.add_variable-requires-clause-lawful
add_variable-requires-clause-lawful c =
    lawful_there (kept_of c.take-tables.result) c.args.self.now.stand (a_variable c.args.word.now) c.take-tables.ensures.stand c.requires
