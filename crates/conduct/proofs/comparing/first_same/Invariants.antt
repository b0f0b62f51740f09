use Rattle.std.proofs.Common.{List, None, take}
use Rattle.conduct.specs.Comparing.{AreCompared}
use Rattle.conduct.proofs.Asked.{clashes}
use Rattle.outside.specs.Events.{Bytes, Event, Adds}
use Rattle.conduct.proofs.comparing.first_same.Given as goal

abbrev pub invariant-loop-other : goal.invariant-loop-other
invariant-loop-other g l = (es : List Event) × Adds (g.W.World.done l.initial.world) (g.W.World.done l.world) es
    × ((line : Bytes → Bytes) → AreCompared (clashes l.one line (take l.other-index l.others)) es None)
