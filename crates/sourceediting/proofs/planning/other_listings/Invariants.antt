-- What the loop of `other_listings` keeps.
use Rattle.std.proofs.Common.{}
use Rattle.std.specs.Prelude.{All}
use Rattle.sourceediting.specs.Views.{seen_living, edition_of}
use Rattle.sourceediting.specs.Reproved.{ListsAnew}
use Rattle.sourceediting.proofs.planning.other_listings.Given as goal

-- each theorem so far lists others now
abbrev pub invariant-loop-followed : goal.invariant-loop-followed
invariant-loop-followed l = All (λ p. ListsAnew (edition_of l.planned) (seen_living l.planned.living.now) p.0.now p.1.now) l.others.items
