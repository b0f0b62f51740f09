use Rattle.std.proofs.Common.{take}
use Rattle.std.specs.List.{AllZip}
use Rattle.transaction.specs.Closings.{lists_of}
use Rattle.plainediting.specs.Outcomes.{HasAsMany, joined}
use Rattle.plainediting.specs.Desks.{first_desk, DoesAll}
use Rattle.plainediting.proofs.editing.edit_all.Given as goal

abbrev pub invariant-loop-script : goal.invariant-loop-script
invariant-loop-script l =
    record {
      each : AllZip HasAsMany (take l.script-index l.scripts) (lists_of l.rows.items);
      all : DoesAll (first_desk l.db) (joined (take l.script-index l.scripts)) (joined (lists_of l.rows.items)) l.desk;
    }
