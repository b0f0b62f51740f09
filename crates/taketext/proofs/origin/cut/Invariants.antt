-- What the loop of `cut` keeps.
use Rattle.std.proofs.Common.{take}
use Rattle.std.specs.Prelude.{◌≢◌, All}
use Rattle.taketext.proofs.origin.cut.Given as goal

-- none of those so far is the byte
abbrev pub invariant-loop-place : goal.invariant-loop-place
invariant-loop-place l = All (λ b. b ≢ l.byte) (take l.place l.text)
