-- What the loop of `part` keeps.
use Rattle.std.proofs.Common.{List}
use Rattle.std.specs.Prelude.{All}
use Rattle.sourceediting.specs.Following.{Followed}
use Rattle.sourceediting.specs.Views.{AreMembers}
use Rattle.sourceediting.proofs.moving.part.Given as goal

-- those so far that leave their rows were met
abbrev pub invariant-loop-row : goal.invariant-loop-row
invariant-loop-row l =
    (living : List Followed) → All (λ r. AreMembers living r.members.items) l.rows → AreMembers living l.fn.leaving.items
    → AreMembers living l.leaving.items
