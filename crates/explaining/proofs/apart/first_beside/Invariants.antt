-- What the loop of `first_beside` keeps.
use Rattle.std.proofs.Common.{◌≡◌, drop}
use Rattle.std.specs.Prelude.{find}
use mathlib.Core.Bool.{not}
use Rattle.source.specs.Views.{seen_words}
use Rattle.verifying.specs.Citations.{symbols_apart}
use Rattle.explaining.specs.Shown.{seen_assertion}
use Rattle.explaining.proofs.apart.first_beside.Given as goal

abbrev pub invariant-loop-other : goal.invariant-loop-other
invariant-loop-other l =
    find (λ v. not (symbols_apart (seen_assertion l.theorem) l.variable v)) (seen_words (drop l.other-index l.others))
    ≡ find (λ v. not (symbols_apart (seen_assertion l.theorem) l.variable v)) (seen_words l.others)
