use Rattle.std.proofs.Common.{take}
use Rattle.std.specs.List.{AllZip}
use Rattle.derivation.specs.Lookups.{AreVariablesOf}
use Rattle.stepcheck.proofs.pairs.variables_of_each.Given as goal

abbrev pub invariant-loop-place : goal.invariant-loop-place
invariant-loop-place l = AllZip (λ s vs. AreVariablesOf vs.items s.1) (take l.place l.substitution) l.found.items
