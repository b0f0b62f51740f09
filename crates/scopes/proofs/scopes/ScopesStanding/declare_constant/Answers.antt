-- What is left to show of `declare_constant`.
use Rattle.source.specs.Tests.{a_constant}
use Rattle.scopes.specs.Views.{kept_of}
use Rattle.scopes.proofs.Seeing.{lawful_there}
use Rattle.scopes.proofs.scopes.ScopesStanding.declare_constant.Goals as goal

pub add_constant-requires-clause-lawful : goal.add_constant-requires-clause-lawful
add_constant-requires-clause-lawful c =
    lawful_there (kept_of c.take-tables.result) c.args.self.now.stand (a_constant c.args.word.now) c.take-tables.ensures.stand c.requires
