-- What the loop of `declare_constants` keeps.
use Rattle.std.proofs.Common.{◌≡◌}
use Rattle.mmsyntax.specs.Preludes.{AreSound}
use Rattle.mmsyntax.proofs.Copies.{constants_before}
use Rattle.drafts.specs.Drafts.{tables_of}
use Rattle.drafts.proofs.symbols.declare_constants.Given as goal

abbrev pub invariant-loop-name : goal.invariant-loop-name
invariant-loop-name l = record { so_far : l.symbols ≡ constants_before (tables_of l.draft) l.name-index; sound : AreSound l.symbols }
