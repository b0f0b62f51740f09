-- What the loop of `are_words` keeps.
use Rattle.std.proofs.Common.{◌≡◌, ◌↔◌, drop}
use Rattle.source.specs.Views.{seen_words}
use Rattle.dressing.proofs.quotable.are_words.Given as goal

-- what is left is equal where all are
abbrev pub invariant-loop-i : goal.invariant-loop-i
invariant-loop-i l = (seen_words (drop l.i l.ones) ≡ seen_words (drop l.i l.others)) ↔ (seen_words l.ones ≡ seen_words l.others)
