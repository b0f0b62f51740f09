-- What the loop of `put_steps` keeps.
use Rattle.std.proofs.Common.{◌≡◌, ◌++◌, take, map}
use Rattle.mmsyntax.specs.Layout.{spaced, step_word}
use Rattle.mmwriter.proofs.writing.put_steps.Given as goal

abbrev pub invariant-loop-i : goal.invariant-loop-i
invariant-loop-i l = l.out.items ≡ l.fn.out.items ++ spaced (map (step_word l.prelude l.label) (take l.i l.steps))
