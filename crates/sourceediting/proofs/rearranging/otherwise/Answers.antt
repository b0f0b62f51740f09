-- What is left to show of `otherwise`.
use Rattle.std.proofs.Common.{map}
use Rattle.library.specs.declared.library.Ranked.{Ranked}
use Rattle.sourceediting.specs.Views.{seen_living}
use Rattle.sourceediting.proofs.rearranging.otherwise.Goals as goal

pub returns-in-None-clause-refused : goal.returns-in-None-clause-refused
returns-in-None-clause-refused c =
    let edited = map (λ (r : Ranked). r.assertion) c.args.entries.now in
    c.without_comings.ensures.refused (seen_living c.args.living.now) edited c.requires.listed
