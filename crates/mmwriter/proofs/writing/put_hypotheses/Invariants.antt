-- What the loop of `put_hypotheses` keeps.
use Rattle.std.proofs.Common.{◌≡◌, ◌++◌, take}
use Rattle.mmsyntax.specs.Layout.{hypothesis_pieces}
use Rattle.mmwriter.proofs.Pieces.{piece_lines}
use Rattle.mmwriter.proofs.writing.put_hypotheses.Given as goal

abbrev pub invariant-loop-place : goal.invariant-loop-place
invariant-loop-place l = l.out.items ≡ l.fn.out.items ++ piece_lines (hypothesis_pieces l.prelude l.label 0 (take l.place l.hyps))
