-- What the loop of `are_put` keeps.
use Rattle.std.proofs.Common.{map}
use Rattle.library.specs.declared.library.Ranked.{Ranked}
use Rattle.sourceediting.specs.Refusals.{ArePut}
use Rattle.sourceediting.specs.Views.{seen_living}
use Rattle.sourceediting.proofs.beside.are_put.Given as goal

-- each so far was put in
abbrev pub invariant-loop-number : goal.invariant-loop-number
invariant-loop-number l = ArePut (seen_living l.living) (map (λ (r : Ranked). r.assertion) l.entries) l.from l.number
