-- What the loop of `places_of_others` keeps.
use Rattle.giving.specs.Places.{ArePlacesBefore}
use Rattle.giving.proofs.staying.places_of_others.Given as goal

-- the places so far
abbrev pub invariant-loop-place : goal.invariant-loop-place
invariant-loop-place l = ArePlacesBefore l.place l.chosen l.places.items
