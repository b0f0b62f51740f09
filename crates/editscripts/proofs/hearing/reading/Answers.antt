-- What is left to show of `reading`.
use Rattle.std.proofs.Common.{rules}
use Rattle.std.specs.Prelude.{◌≢◌}
use Rattle.mmtext.specs.declared.fault.FaultKind.TheVariants.{NoMemory}
use Rattle.editscripts.proofs.hearing.reading.Goals as goal

pub returns-else-eq : goal.returns-else-eq
returns-else-eq c =
    let other : c.in-Err.fault.kind ≢ NoMemory = search rules in
    c.in-Err.ensures.fault other
