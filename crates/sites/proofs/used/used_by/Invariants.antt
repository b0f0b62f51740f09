-- What the loop of `used_by` keeps: what the chosen ones so far use.
use Rattle.std.proofs.Common.{take}
use Rattle.source.specs.Flags.{kept}
use Rattle.sites.specs.Used.{Uses}
use Rattle.sites.proofs.used.used_by.Given as goal

abbrev pub invariant-loop-place : goal.invariant-loop-place
invariant-loop-place g l =
    Uses l.used (kept (take l.place l.chosen) (take l.place (g.D.Declared.scope l.declared).assertions))
