-- What the loop of `are_words` keeps.
use Rattle.std.proofs.Common.{◌≡◌, ◌↔◌, drop}
use Rattle.source.specs.Views.{seen_words}
use Rattle.giving.proofs.alike.are_words.Given as goal

-- what is left is equal where all are
abbrev pub invariant-loop-i : goal.invariant-loop-i
invariant-loop-i l = (seen_words (drop l.i l.one) ≡ seen_words (drop l.i l.other)) ↔ (seen_words l.one ≡ seen_words l.other)
