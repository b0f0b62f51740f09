-- What the loop of `put_steps` keeps: the words of the steps so far are put.
use Rattle.std.proofs.Common.{List, ◌++◌, map, take}
use Rattle.mmtext.specs.Text.{Token}
use Rattle.expanding.specs.Views.{IsLaid}
use Rattle.pasting.specs.Views.{step_of}
use Rattle.pasting.proofs.steps.put_steps.Given as goal

abbrev pub invariant-loop-i : goal.invariant-loop-i
invariant-loop-i l =
    (ts : List Token) → IsLaid ts l.fn.laid → IsLaid (ts ++ map (step_of l.prelude l.proving) (take l.i l.steps)) l.laid
