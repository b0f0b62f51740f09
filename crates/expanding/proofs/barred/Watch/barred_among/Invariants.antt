-- What the loop of `barred_among` keeps: what is forbidden of the commands so far.
use Rattle.std.proofs.Common.{◌≡◌, List, map, take}
use Rattle.mmtext.specs.Words.{Word}
use Rattle.expanding.specs.Commands.{Command}
use Rattle.expanding.specs.Bars.{seen_bar}
use Rattle.expanding.specs.Watches.{IsWatch, seen_barred, all_barred}
use Rattle.expanding.proofs.barred.Watch.barred_among.Given as goal

abbrev pub invariant-loop-bar : goal.invariant-loop-bar
invariant-loop-bar g l =
    let s = g.D.Declared.scope l.declared in
    (asked : List Word) (cs : List Command) → IsWatch s asked cs l.self
    → map seen_barred l.all.items ≡ all_barred s asked cs l.places (map seen_bar (take l.bar-index l.bar-items))
