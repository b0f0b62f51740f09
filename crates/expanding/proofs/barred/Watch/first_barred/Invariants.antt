-- What the loop of `first_barred` keeps: the first is among those that are left.
use Rattle.std.proofs.Common.{◌≡◌, List, drop}
use Rattle.mmtext.specs.Words.{Word}
use Rattle.expanding.specs.Commands.{Command}
use Rattle.expanding.specs.Bars.{seen_bar}
use Rattle.expanding.specs.Watches.{IsWatch, first_barred}
use Rattle.expanding.proofs.barred.Watch.first_barred.Given as goal

abbrev pub invariant-loop-place : goal.invariant-loop-place
invariant-loop-place g l =
    let s = g.D.Declared.scope l.declared in
    (asked : List Word) (cs : List Command) → IsWatch s asked cs l.self
    → first_barred s asked cs l.places (seen_bar l.bar) ≡ first_barred s asked cs (drop l.place-index l.places) (seen_bar l.bar)
