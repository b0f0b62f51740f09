-- What the loop of `names_hypothesis` keeps.
use Rattle.std.proofs.Common.{◌≡◌, false, length}
use Rattle.mmtext.specs.Words.{has_number}
use Rattle.mmtext.proofs.mark.names_hypothesis.Given as goal

-- what is left decides as the whole word does
abbrev pub invariant-loop-rest : goal.invariant-loop-rest
invariant-loop-rest l = has_number l.some l.rest ≡ has_number false l.word

abbrev pub decreases-loop-rest : goal.decreases-loop-rest
decreases-loop-rest l = length l.rest
