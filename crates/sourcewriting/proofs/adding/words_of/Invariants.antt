-- What the loop of `words_of` keeps.
use Rattle.std.proofs.Common.{IsTrue}
use Rattle.std.specs.Prelude.{All}
use Rattle.source.specs.Views.{seen_words}
use Rattle.items.specs.Layout.{is_word}
use Rattle.sourcewriting.specs.Added.{IsSpelled}
use Rattle.sourcewriting.proofs.adding.words_of.Given as goal

-- those so far can be written
abbrev pub invariant-loop-symbol : goal.invariant-loop-symbol
invariant-loop-symbol l = All (IsSpelled l.words) l.symbols → All (λ w. IsTrue (is_word w)) (seen_words l.made.items)
