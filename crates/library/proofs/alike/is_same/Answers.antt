-- What is left to show of `is_same`.
use Rattle.std.proofs.lemmas.Slice.Eq.{slice_eq-Decides}
use Rattle.derivation.proofs.Nodes.{symbol_decides}
use Rattle.library.proofs.alike.is_same.Goals as goal

pub returns : goal.returns
returns c = slice_eq-Decides symbol_decides _ _ _ c.eq.ensures
