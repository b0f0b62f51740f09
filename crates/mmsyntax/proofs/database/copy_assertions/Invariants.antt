-- What the loop of `copy_assertions` keeps.
use Rattle.std.proofs.Common.{◌≡◌, take}
use Rattle.mmsyntax.proofs.database.copy_assertions.Given as goal

abbrev pub invariant-loop-assertion : goal.invariant-loop-assertion
invariant-loop-assertion l = l.made.items ≡ take l.assertion-index l.assertions
