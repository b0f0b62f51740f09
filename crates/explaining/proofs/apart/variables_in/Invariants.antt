-- What the loop of `variables_in` keeps.
use Rattle.std.proofs.Common.{◌≡◌, take}
use Rattle.source.specs.Views.{seen_words}
use Rattle.verifying.specs.Citations.{variables_in}
use Rattle.explaining.specs.Shown.{seen_assertion}
use Rattle.explaining.proofs.apart.variables_in.Given as goal

abbrev pub invariant-loop-symbol : goal.invariant-loop-symbol
invariant-loop-symbol l =
    seen_words l.variables.items ≡ variables_in (seen_assertion l.theorem) (seen_words (take l.symbol-index l.expression))
