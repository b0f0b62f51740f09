-- What the loop of `types_met` keeps.
use Rattle.std.proofs.Common.{◌≡◌, drop}
use Rattle.std.specs.List.{list_all, zip}
use Rattle.sourcecheck.specs.Coded.{is_typed}
use Rattle.sourcecheck.proofs.fitting.types_met.Given as goal

abbrev pub invariant-loop-place : goal.invariant-loop-place
invariant-loop-place l =
    list_all (λ p. is_typed p.0 p.1) (zip (drop l.place l.demands) (drop l.place l.arguments))
    ≡ list_all (λ p. is_typed p.0 p.1) (zip l.demands l.arguments)
