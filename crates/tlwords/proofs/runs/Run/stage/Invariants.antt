use Rattle.std.specs.Prelude.{None}
use Rattle.tlwords.proofs.runs.Run.stage.Given as goal

abbrev pub ghosts-advance : goal.ghosts-advance
ghosts-advance g a = record { value = 0; note = None; words = a.range.now }
