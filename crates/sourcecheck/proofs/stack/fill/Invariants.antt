-- What the loop of `fill` keeps.
use Rattle.std.proofs.Common.{◌≡◌, ◌++◌, ◌≤◌, length, take}
use Rattle.sourcecheck.specs.Spans.{cut}
use Rattle.sourcecheck.specs.Coded.{filled}
use Rattle.sourcecheck.proofs.stack.fill.Given as goal

abbrev pub invariant-loop-piece : goal.invariant-loop-piece
invariant-loop-piece l = record {
  made : l.symbols.items ≡ l.initial.symbols.items ++ filled (cut l.initial.symbols.items l.spans) (take l.piece-index l.pieces);
  grows : length l.initial.symbols.items ≤ length l.symbols.items;
}
