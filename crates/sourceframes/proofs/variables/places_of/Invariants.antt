-- What the loop of `places_of` keeps.
use Rattle.std.proofs.Common.{map, take}
use Rattle.sourceframes.specs.Frames.{ArePlaced, seen_variable}
use Rattle.sourceframes.proofs.variables.places_of.Given as goal

abbrev pub invariant-loop-place : goal.invariant-loop-place
invariant-loop-place l = ArePlaced (map seen_variable (take l.place l.listed)) l.places
