use Rattle.std.proofs.Common.{arith}
use Rattle.cells.proofs.Settings.{some_slots, few_slots}
use Rattle.cells.proofs.places.slot_count.Goals as goal

pub returns-clause-some : goal.returns-clause-some
returns-clause-some g c =
    let x = c.args.cells.now in omega (arith, c.slots.ensures, some_slots (g.C.Cells.sight x) (g.met.C.Cells.grounded x))

pub returns-clause-few : goal.returns-clause-few
returns-clause-few g c =
    let x = c.args.cells.now in omega (arith, c.slots.ensures, few_slots (g.C.Cells.sight x) (g.met.C.Cells.grounded x))
