-- What the loop of `library_names` keeps: the names so far.
use Rattle.source.specs.Views.{seen_words}
use Rattle.taking.proofs.Given.{Given}
use Rattle.taking.proofs.fresh.library_names.Given as goal

abbrev pub invariant-loop-i : goal.invariant-loop-i
invariant-loop-i g l =
    Given (g.N.FreeNames.is_free l.initial.names) (g.N.FreeNames.is_free l.names) l.changes (seen_words l.words) l.i l.given.items
