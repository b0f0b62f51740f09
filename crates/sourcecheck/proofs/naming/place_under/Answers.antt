-- What is left to show of `place_under`.
use Rattle.sourcecheck.proofs.Labelled.{first_is_under}
use Rattle.sourcecheck.proofs.naming.place_under.Goals as goal

pub returns-in-None-clause-place : goal.returns-in-None-clause-place
returns-in-None-clause-place c =
    first_is_under c.args.active.now.items c.args.label.now c.first_place_under.result c.first_place_under.ensures
