-- What the loop of `place_of` keeps: where the byte stands among the words that are left.
use Rattle.std.proofs.Common.{◌≡◌, drop}
use Rattle.expanding.proofs.Laying.{stood_at}
use Rattle.expanding.proofs.laid.Laid.place_of.Given as goal

abbrev pub invariant-loop-word : goal.invariant-loop-word
invariant-loop-word l = stood_at (drop l.word-index l.word-items) l.end l.left ≡ stood_at l.word-items l.end l.byte
