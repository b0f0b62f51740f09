-- What the loop of `is_filled` keeps.
use Rattle.std.proofs.Common.{◌≡◌, ◌↔◌, drop}
use Rattle.sourcecheck.specs.Coded.{filled}
use Rattle.sourcecheck.proofs.fitting.is_filled.Given as goal

abbrev pub invariant-loop-piece : goal.invariant-loop-piece
invariant-loop-piece l =
    (filled l.arguments (drop l.piece-index l.pieces) ≡ l.rest) ↔ (filled l.arguments l.pieces ≡ l.expression)
