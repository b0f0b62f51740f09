-- What the loop of `substituted` keeps.
use Rattle.std.proofs.Common.{◌≡◌, map, take}
use Rattle.source.specs.Views.{seen_words}
use Rattle.verifying.specs.Citations.{subst}
use Rattle.explaining.specs.Shown.{seen_filled, substitution_by}
use Rattle.explaining.proofs.filling.substituted.Given as goal

abbrev pub invariant-loop-symbol : goal.invariant-loop-symbol
invariant-loop-symbol l =
    seen_words l.made.items
    ≡ subst (substitution_by (map seen_filled l.filled)) (seen_words (take l.symbol-index l.expression))
