-- What the loop of `watched` keeps: all theorems so far that may forbid a command are there.
use Rattle.std.proofs.Common.{◌≡◌, ◌<◌, ℕ, true, List}
use Rattle.std.specs.Prelude.{Contains}
use Rattle.mmtext.specs.Words.{Word}
use Rattle.expanding.specs.Commands.{Command}
use Rattle.expanding.specs.Bars.{holds}
use Rattle.expanding.specs.Watches.{IsWatch, is_watched}
use Rattle.expanding.proofs.barred.Watch.watched.Given as goal

abbrev pub invariant-loop-place : goal.invariant-loop-place
invariant-loop-place g l =
    let s = g.D.Declared.scope l.declared in
    (asked : List Word) (cs : List Command) → IsWatch s asked cs l.self
    → (k : ℕ) → k < l.place → is_watched s asked (holds l.self.labels) k ≡ true → Contains l.places.items k
