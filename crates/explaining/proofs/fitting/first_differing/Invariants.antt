-- What the loop of `first_differing` keeps.
use Rattle.std.proofs.Common.{◌≡◌, map, drop}
use Rattle.std.specs.Prelude.{find}
use mathlib.Core.Bool.{not}
use Rattle.verifying.specs.Citations.{is_instance}
use Rattle.explaining.specs.Shown.{seen_filled, substitution_by}
use Rattle.explaining.proofs.fitting.first_differing.Given as goal

abbrev pub invariant-loop-part : goal.invariant-loop-part
invariant-loop-part l =
    find (λ p. not (is_instance (substitution_by (map seen_filled l.filled)) p.0 p.1)) (map seen_filled (drop l.part-index l.filled))
    ≡ find (λ p. not (is_instance (substitution_by (map seen_filled l.filled)) p.0 p.1)) (map seen_filled l.filled)
