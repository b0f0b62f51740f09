-- What the loop of `places_of` keeps: the places of the words so far.
use Rattle.std.proofs.Common.{◌≡◌, take, map}
use Rattle.editedsource.proofs.spoken.places_of.Given as goal

abbrev pub invariant-loop-word : goal.invariant-loop-word
invariant-loop-word l = l.places.items ≡ map (λ t. t.place) (take l.word-index l.words)
