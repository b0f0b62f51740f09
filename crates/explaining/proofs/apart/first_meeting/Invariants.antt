-- What the loop of `first_meeting` keeps.
use Rattle.std.proofs.Common.{◌≡◌, drop}
use Rattle.std.specs.Prelude.{find}
use mathlib.Core.Bool.{not}
use Rattle.std.specs.List.{list_all}
use Rattle.source.specs.Views.{seen_words}
use Rattle.verifying.specs.Citations.{symbols_apart}
use Rattle.explaining.specs.Shown.{seen_assertion}
use Rattle.explaining.proofs.apart.first_meeting.Given as goal

abbrev pub invariant-loop-variable : goal.invariant-loop-variable
invariant-loop-variable l =
    find (λ u. not (list_all (symbols_apart (seen_assertion l.theorem) u) (seen_words l.others)))
    (seen_words (drop l.variable-index l.variables))
    ≡ find (λ u. not (list_all (symbols_apart (seen_assertion l.theorem) u) (seen_words l.others))) (seen_words l.variables)
