-- What the loop of `declare_floats` keeps.
use Rattle.std.proofs.Common.{◌≡◌}
use Rattle.mmsyntax.specs.Preludes.{AreSound}
use Rattle.mmsyntax.proofs.Copies.{floats_before}
use Rattle.drafts.specs.Drafts.{tables_of}
use Rattle.drafts.proofs.symbols.declare_floats.Given as goal

abbrev pub invariant-loop-float : goal.invariant-loop-float
invariant-loop-float l = record { so_far : l.symbols ≡ floats_before (tables_of l.draft) l.float-index; sound : AreSound l.symbols }
