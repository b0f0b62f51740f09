-- What the loop of `citing` keeps: the theorems so far that cite it.
use Rattle.std.proofs.Common.{◌≡◌, take}
use Rattle.source.specs.Views.{seen_words}
use Rattle.spreading.proofs.Citing.{citing_in}
use Rattle.spreading.proofs.spreading.citing.Given as goal

abbrev pub invariant-loop-place : goal.invariant-loop-place
invariant-loop-place g l = seen_words l.labels.items ≡ citing_in l.label (take l.place (g.D.Declared.scope l.declared).assertions)
