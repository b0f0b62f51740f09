-- What the loop of `floats` keeps: the $f so far stand before those that are left.
use Rattle.std.proofs.Common.{◌≡◌, ◌++◌, drop}
use Rattle.gathering.specs.Placed.{floats_from}
use Rattle.intake.proofs.drafting.floats.Given as goal

abbrev pub invariant-loop-place : goal.invariant-loop-place
invariant-loop-place l =
    l.made.items ++ floats_from l.place (drop l.place l.labels) (drop l.place l.types) ≡ floats_from 0 l.labels l.types
