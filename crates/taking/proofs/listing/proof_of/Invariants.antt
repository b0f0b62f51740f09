use Rattle.std.proofs.Common.{◌≡◌, take, map}
use Rattle.taking.proofs.listing.proof_of.Given as goal

abbrev pub invariant-loop-numbered : goal.invariant-loop-numbered
invariant-loop-numbered l = l.made ≡ map (λ s. s.1.now) (take l.numbered-index l.steps)
