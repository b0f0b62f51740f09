-- What the loop of `first_misnamed` keeps.
use Rattle.std.proofs.Common.{All, take}
use Rattle.arranging.specs.Arranged.{label_in_source}
use Rattle.arranging.specs.Named.{IsNamedFrom}
use Rattle.arranging.specs.declared.coming.Coming.{Coming}
use Rattle.arranging.proofs.naming.first_misnamed.Given as goal

-- so does each so far
abbrev pub invariant-loop-number : goal.invariant-loop-number
invariant-loop-number l = All (λ (c : Coming). IsNamedFrom l.changes c (label_in_source c)) (take l.number l.comings)
