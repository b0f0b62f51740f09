-- What the loop of `put_words` keeps.
use Rattle.std.proofs.Common.{◌≡◌, IsTrue}
use Rattle.std.specs.Prelude.{All}
use Rattle.source.specs.Views.{seen_words}
use Rattle.items.specs.Layout.{is_word}
use Rattle.sourcewriting.proofs.layout.Layout.put_words.Given as goal

abbrev pub invariant-loop-word : goal.invariant-loop-word
invariant-loop-word l = All (λ w. IsTrue (is_word w)) (seen_words l.words) → l.self.is_refused ≡ l.fn.self.is_refused
