-- What the loop of `others_told` keeps: the others so far.
use Rattle.std.proofs.Common.{◌≡◌, take, filter}
use mathlib.Core.Bool.{not}
use Rattle.source.specs.Scopes.{is_in}
use Rattle.taking.specs.Reasons.{told_in}
use Rattle.standins.proofs.settling.others_told.Given as goal

abbrev pub invariant-loop-told : goal.invariant-loop-told
invariant-loop-told l =
    told_in l.made.items ≡ filter (λ a. not (is_in l.released a.0)) (told_in (take l.told-index l.axioms))
