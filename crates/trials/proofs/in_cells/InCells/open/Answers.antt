use Rattle.std.proofs.Common.{◌∙◌, sym}
use Rattle.trials.proofs.Plain.{opened_shows}
use Rattle.trials.proofs.in_cells.InCells.open.Goals as goal

pub invariant_of-result : goal.invariant_of-result
invariant_of-result c =
    record {
      same = c.in_ok-cells.ensures.ok.prelude ∙ sym c.prelude.ensures ∙ sym c.in_ok-prelude.ensures;
      shown = opened_shows c.args.db.now c.args.slots c.args.room c.in_ok-cells.cells c.assertions-assertions.ensures.sound
          c.requires.checks
          c.requires.slots.0 c.requires.slots.1 c.in_ok-cells.ensures.within.0 c.in_ok-cells.ensures.ok;
    }
