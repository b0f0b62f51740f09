-- What the loop of `put_hypotheses` keeps: the steps so far.
use Rattle.std.proofs.Common.{◌≡◌, ◌++◌, map}
use Rattle.std.specs.List.{range_with_len}
use Rattle.mmsyntax.specs.declared.statement.Step.TheVariants.{Hyp}
use Rattle.standins.proofs.opening.put_hypotheses.Given as goal

abbrev pub invariant-loop-place : goal.invariant-loop-place
invariant-loop-place l = l.proof ≡ l.fn.proof ++ map (λ k. Hyp k) (range_with_len 0 l.place)
