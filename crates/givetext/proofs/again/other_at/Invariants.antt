-- What the loop of `other_at` keeps.
use Rattle.std.proofs.Common.{◌≡◌, drop}
use Rattle.std.specs.Prelude.{slice_get}
use Rattle.giving.specs.Staying.{others}
use Rattle.givetext.proofs.again.other_at.Given as goal

-- what is looked for has so many in front of it among those that are left
abbrev pub invariant-loop-place : goal.invariant-loop-place
invariant-loop-place g l =
    slice_get (others l.own (g.D.Declared.scope l.declared).assertions) l.number
    ≡ slice_get (others (drop l.place l.own) (drop l.place (g.D.Declared.scope l.declared).assertions)) l.left
