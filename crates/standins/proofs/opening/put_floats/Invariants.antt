-- What the loop of `put_floats` keeps: the steps so far.
use Rattle.std.proofs.Common.{◌≡◌, ◌++◌, map, take}
use Rattle.mmsyntax.specs.declared.statement.Step.TheVariants.{Float}
use Rattle.standins.proofs.opening.put_floats.Given as goal

abbrev pub invariant-loop-place : goal.invariant-loop-place
invariant-loop-place l = l.proof ≡ l.fn.proof ++ map (λ place. Float place) (take l.place-index l.floats)
