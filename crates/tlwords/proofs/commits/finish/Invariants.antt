use Rattle.std.specs.Prelude.{Some, []}
use Rattle.tlwords.proofs.commits.finish.Given as goal

abbrev pub ghosts-recall : goal.ghosts-recall
ghosts-recall g a = record { value = 0; note = Some a.note.now; words = [] }
