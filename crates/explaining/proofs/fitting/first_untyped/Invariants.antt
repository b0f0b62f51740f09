-- What the loop of `first_untyped` keeps.
use Rattle.std.proofs.Common.{◌≡◌, map, drop}
use Rattle.std.specs.Prelude.{find}
use mathlib.Core.Bool.{not}
use Rattle.verifying.specs.Citations.{has_type}
use Rattle.explaining.specs.Shown.{seen_filled}
use Rattle.explaining.proofs.fitting.first_untyped.Given as goal

abbrev pub invariant-loop-part : goal.invariant-loop-part
invariant-loop-part l =
    find (λ p. not (has_type p.0 p.1)) (map seen_filled (drop l.part-index l.filled))
    ≡ find (λ p. not (has_type p.0 p.1)) (map seen_filled l.filled)
