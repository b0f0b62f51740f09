use Rattle.std.proofs.Common.{◌≤◌, ◌<◌, length, subst, arith}
use Rattle.mmsyntax.proofs.Declarable.{declarable}
use Rattle.derivation.proofs.Exact.{first-excludes}
use Rattle.transaction.specs.declared.shape.OpenError.TheVariants.{TooMany, ProofFails}
use Rattle.transaction.specs.Openings.{Refuses}
use Rattle.jobs.proofs.running.open.Goals as goal

-- a database has at most 4,096 assertions
pub unreachable-requires-in-Err-TooMany : goal.unreachable-requires-in-Err-TooMany
unreachable-requires-in-Err-TooMany c =
    let db = c.args.db.now in
    let few : length db.assertions ≤ 4096 = (declarable db c.assertions-assertions.ensures.sound).few in
    let refused : Refuses db c.args.shape TooMany = subst (Refuses db c.args.shape) c.in-Err-TooMany.field-0-is c.in-Err-TooMany.ensures in
    let many : c.args.shape.slots < length db.assertions = refused.1 in
    omega (arith, c.requires.slots)

-- all its proofs check
pub unreachable-requires-in-Err-ProofFails : goal.unreachable-requires-in-Err-ProofFails
unreachable-requires-in-Err-ProofFails c =
    let db = c.args.db.now in
    let index = c.in-Err-ProofFails.field-0-0 in
    let found = c.in-Err-ProofFails.field-0-1 in
    let refused : Refuses db c.args.shape (ProofFails index found) = subst (Refuses db c.args.shape) c.in-Err-ProofFails.field-0-is
    c.in-Err-ProofFails.ensures in
    first-excludes db index found refused.3 c.requires.checks
