-- What the loop of `replacement` keeps.
use Rattle.std.proofs.Common.{◌≡◌, map, drop}
use Rattle.verifying.specs.Citations.{replacement}
use Rattle.explaining.specs.Shown.{seen_filled, substitution_by}
use Rattle.explaining.proofs.filling.replacement.Given as goal

abbrev pub invariant-loop-part : goal.invariant-loop-part
invariant-loop-part l =
    replacement (substitution_by (map seen_filled (drop l.part-index l.filled))) l.symbol.now
    ≡ replacement (substitution_by (map seen_filled l.filled)) l.symbol.now
