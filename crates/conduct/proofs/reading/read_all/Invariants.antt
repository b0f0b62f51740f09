use Rattle.std.proofs.Common.{ℕ, List, Bor, map}
use Rattle.std.specs.Prelude.{Vec}
use Rattle.std.specs.declared.alloc.Global.{Global}
use Rattle.conduct.proofs.Behind.{IsReading}
use Rattle.conduct.proofs.reading.read_all.Given as goal

abbrev pub invariant-loop-path : goal.invariant-loop-path
invariant-loop-path g l =
    IsReading l.manner (g.W.World.done l.initial.world) (g.W.World.done l.world) (map (λ (p : Bor (List ℕ)). p.now) l.paths)
    (map (λ (t : Vec ℕ Global). t.items) l.texts.items) l.path-index
