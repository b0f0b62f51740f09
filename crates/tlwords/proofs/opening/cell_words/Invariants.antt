use Rattle.std.proofs.Common.{◌≡◌, take}
use Rattle.tlwords.specs.Layout.{opening_words, front_of}
use Rattle.tlwords.proofs.opening.cell_words.Given as goal

abbrev pub invariant-loop-i : goal.invariant-loop-i
invariant-loop-i l = l.words.items ≡ front_of 0 (opening_words (take l.i l.values))
