use Rattle.std.proofs.Common.{◌≡◌, take}
use Rattle.mmframes.proofs.frames.copy_hypotheses.Given as goal

abbrev pub invariant-loop-hyp : goal.invariant-loop-hyp
invariant-loop-hyp l = l.made.items ≡ take l.hyp-index l.hyps
