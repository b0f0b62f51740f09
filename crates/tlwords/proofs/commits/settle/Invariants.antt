use Rattle.std.specs.Prelude.{Some, []}
use Rattle.tlwords.proofs.commits.settle.Given as goal

abbrev pub ghosts-draw : goal.ghosts-draw
ghosts-draw g a = record { value = 0; note = Some a.note.now; words = [] }
