-- What is left to show of `taken_at`.
use Rattle.std.proofs.Common.{take}
use Rattle.std.specs.Prelude.{slice_get}
use Rattle.gathering.specs.Placed.{map_of, tables_of}
use Rattle.gathering.proofs.Stated.{made_there}
use Rattle.gathering.proofs.assembling.taken_at.Goals as goal

pub returns-clause-made : goal.returns-clause-made
returns-clause-made g c =
    let s = g.D.Declared.scope c.args.declared.now in
    let t = c.args.placed.now.sites.now in
    let names = c.args.placed.now.names.now in
    λ choice are.
    made_there (map_of t names) (tables_of t names) choice (take c.args.place s.assertions) s (slice_get s.assertions c.args.place)
    c.in_ok-assertion.assertion c.in_ok-outcome.outcome c.with_outcome.result c.with_outcome.ensures c.in_ok-assertion.ensures
    (c.in_ok-outcome.ensures.outcome choice are)
