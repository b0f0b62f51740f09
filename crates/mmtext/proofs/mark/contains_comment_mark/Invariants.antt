-- What the loop of `contains_comment_mark` keeps.
use Rattle.std.proofs.Common.{◌≡◌, length}
use Rattle.mmtext.specs.Text.{has_comment_mark}
use Rattle.mmtext.proofs.mark.contains_comment_mark.Given as goal

abbrev pub invariant-loop-rest : goal.invariant-loop-rest
invariant-loop-rest l = has_comment_mark l.rest ≡ has_comment_mark l.word

abbrev pub decreases-loop-rest : goal.decreases-loop-rest
decreases-loop-rest l = length l.rest
