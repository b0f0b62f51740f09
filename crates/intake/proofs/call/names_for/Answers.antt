-- What is left to show of `names_for`: where a word has no name, none is free for it.
use Rattle.intake.proofs.Steps.{no_names}
use Rattle.intake.proofs.call.names_for.Goals as goal

pub returns-in-Err-NoFreshName-clause-refused : goal.returns-in-Err-NoFreshName-clause-refused
returns-in-Err-NoFreshName-clause-refused g c =
    λ w sited.
    no_names (g.D.Declared.scope c.args.declared.now) w c.args.sites.now sited c.constants.ensures.room _ _ _ _ c.constants.ensures.words
    c.variables.ensures c.floats.ensures.words c.labels.ensures c.in-Err-NoFreshName.word c.in-Err-NoFreshName.field-0
    c.in-Err-NoFreshName.field-0-is c.in-Err-NoFreshName.ensures.refused
