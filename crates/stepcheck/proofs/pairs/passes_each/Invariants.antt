use Rattle.std.specs.List.{AllWithin}
use Rattle.derivation.specs.Lookups.{PassesAbove}
use Rattle.stepcheck.proofs.pairs.passes_each.Given as goal

abbrev pub invariant-loop-v : goal.invariant-loop-v
invariant-loop-v l = AllWithin (λ v. PassesAbove l.thesis.pairs l.low v) l.others 0 l.v-index
