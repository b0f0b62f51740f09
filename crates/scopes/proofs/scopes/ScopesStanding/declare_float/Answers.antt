-- What is left to show of `declare_float`.
use Rattle.source.specs.Statements.{float}
use Rattle.scopes.specs.Views.{kept_of}
use Rattle.scopes.proofs.Seeing.{lawful_there}
use Rattle.scopes.proofs.scopes.ScopesStanding.declare_float.Goals as goal

pub add_float-requires-clause-lawful : goal.add_float-requires-clause-lawful
add_float-requires-clause-lawful c =
    lawful_there (kept_of c.take-tables.result) c.args.self.now.stand
    (float c.args.label.now c.args.type_code.now c.args.variable.now) c.take-tables.ensures.stand c.requires
