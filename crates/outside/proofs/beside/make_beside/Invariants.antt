use Rattle.std.proofs.Common.{◌<◌, List}
use Rattle.outside.specs.Deeds.{Deed, Each, IsTaken, OneFails}
use Rattle.outside.specs.Tried.{Turns}
use Rattle.outside.specs.declared.reason.Reason.TheVariants.{NameTaken}
use Rattle.outside.specs.declared.trouble.Trouble.TheVariants.{Refused}
use Rattle.outside.proofs.beside.make_beside.Given as goal

abbrev pub invariant-loop-number : goal.invariant-loop-number
invariant-loop-number g l = (tried : List Deed) × Each IsTaken tried × (0 < l.number-counter → OneFails (Refused NameTaken) tried)
    × Turns (record {
      before = g.D.Disk.did l.initial.disk;
      after = g.D.Disk.did l.disk;
      known = g.D.Disk.holds l.initial.disk;
      now = g.D.Disk.holds l.disk;
    }) tried
