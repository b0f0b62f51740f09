use Rattle.std.specs.List.{AllWithin, All}
use Rattle.derivation.specs.Lookups.{PassesAbove}
use Rattle.stepcheck.proofs.pairs.all_pass.Given as goal

abbrev pub invariant-loop-u : goal.invariant-loop-u
invariant-loop-u l = AllWithin (λ u. All (λ v. PassesAbove l.thesis.pairs u v) l.vs) l.us 0 l.u-index
