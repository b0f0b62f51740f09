-- What the loop of `equals_met` keeps.
use Rattle.std.proofs.Common.{◌≡◌, drop}
use Rattle.std.specs.List.{list_all, zip}
use Rattle.sourcecheck.specs.Coded.{is_equal}
use Rattle.sourcecheck.proofs.fitting.equals_met.Given as goal

abbrev pub invariant-loop-place : goal.invariant-loop-place
invariant-loop-place l =
    list_all (λ p. is_equal l.arguments p.0 p.1) (zip (drop l.place l.demands) (drop l.place l.arguments))
    ≡ list_all (λ p. is_equal l.arguments p.0 p.1) (zip l.demands l.arguments)
