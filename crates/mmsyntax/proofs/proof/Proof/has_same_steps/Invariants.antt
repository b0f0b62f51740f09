use Rattle.std.proofs.Common.{◌≡◌, take}
use Rattle.mmsyntax.proofs.proof.Proof.has_same_steps.Given as goal

abbrev pub invariant-loop-i : goal.invariant-loop-i
invariant-loop-i l = take l.i l.self ≡ take l.i l.other
