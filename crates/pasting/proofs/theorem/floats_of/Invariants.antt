-- What the loop of `floats_of` keeps: the `$f` so far.
use Rattle.std.proofs.Common.{◌≡◌, map, take}
use Rattle.std.specs.List.{zip}
use Rattle.source.specs.Views.{seen_hypothesis, seen_words}
use Rattle.pasting.proofs.Adding.{float_as}
use Rattle.pasting.proofs.theorem.floats_of.Given as goal

abbrev pub invariant-loop-place : goal.invariant-loop-place
invariant-loop-place l =
    map seen_hypothesis l.made.items ≡ map (float_as l.prelude) (take l.place (zip (seen_words l.labels) l.floats))
