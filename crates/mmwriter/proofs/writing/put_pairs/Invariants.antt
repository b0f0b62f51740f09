-- What the loop of `put_pairs` keeps.
use Rattle.std.proofs.Common.{◌≡◌, ◌++◌, take}
use Rattle.mmsyntax.specs.Layout.{distinct_pieces}
use Rattle.mmwriter.proofs.Pieces.{piece_lines}
use Rattle.mmwriter.proofs.writing.put_pairs.Given as goal

abbrev pub invariant-loop-pair : goal.invariant-loop-pair
invariant-loop-pair l = l.out.items ≡ l.fn.out.items ++ piece_lines (distinct_pieces l.prelude (take l.pair-index l.pairs))
