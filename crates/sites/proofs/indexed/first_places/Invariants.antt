-- What the loop of `first_places` keeps: the places of the words so far.
use Rattle.std.proofs.Common.{take}
use Rattle.source.specs.Views.{seen_words}
use Rattle.sites.specs.Indexes.{FindsPlaces}
use Rattle.sites.proofs.indexed.first_places.Given as goal

abbrev pub invariant-loop-place : goal.invariant-loop-place
invariant-loop-place l = FindsPlaces l.places (seen_words (take l.place l.words))
