-- What the loop of `cited_then` keeps.
use Rattle.std.proofs.Common.{map}
use Rattle.sourceediting.specs.Views.{seen_living, edition_of, AreCitedThen, AreCitedNow, AreAllFound}
use Rattle.sourceediting.proofs.planning.cited_then.Given as goal

-- what is found is one that lives, and those that were met are found
abbrev pub invariant-loop-followed : goal.invariant-loop-followed
invariant-loop-followed g l = record {
  cited : AreCitedThen (g.D.Declared.scope l.declared) (edition_of l.planned) (seen_living l.planned.living.now) l.cited;
  all : AreAllFound l.edited (map (λ r. r.assertion) l.planned.edited.now.entries)
      → AreCitedNow (g.D.Declared.scope l.declared) (edition_of l.planned) (seen_living l.planned.living.now) l.cited l.followed-index;
}
