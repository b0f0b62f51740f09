-- What the loop of `has_compressed` keeps.
use Rattle.sourceediting.proofs.Compressed.{NoneTo}
use Rattle.sourceediting.proofs.rearranging.has_compressed.Given as goal

-- none so far is compressed
abbrev pub invariant-loop-place : goal.invariant-loop-place
invariant-loop-place g l = NoneTo (g.D.Declared.scope l.declared).assertions l.place
