use Rattle.std.proofs.Common.{◌≡◌, ◌≤◌, length, map, vec_capacity}
use Rattle.mmsyntax.specs.ProofWords.{AreWords, steps_of}
use Rattle.bodystore.specs.Bodies.{stored_step}
use Rattle.cells.specs.Sight.{Looks, ReadsWithin}
use Rattle.cells.specs.Lookups.{AreStepsOf}
use Rattle.cells.proofs.ReadBack.{AreReadBack}
use Rattle.cells.proofs.AskingSteps.{IsNameOfSteps}
use Rattle.cells.proofs.reading.proofs.proof.Given as goal

abbrev pub invariant-loop-i : goal.invariant-loop-i
invariant-loop-i g l =
    let kept = map stored_step l.stored in
    Looks (g.C.Cells.sight l.initial.cells) (g.C.Cells.sight l.cells)
    × AreReadBack (g.C.Cells.sight l.cells) l.slots kept l.i (steps_of l.cited.items l.words.items)
    × (length l.words.items ≡ l.i)
    × AreStepsOf l.slots (g.C.Cells.sight l.cells) kept (steps_of l.cited.items l.words.items)
    × ReadsWithin (IsNameOfSteps kept) (g.C.Cells.sight l.initial.cells) (g.C.Cells.sight l.cells)
    × AreWords l.cited.items l.words.items
    × (length l.cited.items ≤ l.i)
    × (length l.stored ≤ vec_capacity l.words)
