-- What the loop of `set_of` keeps: the words so far.
use Rattle.std.proofs.Common.{◌≡◌, take}
use Rattle.mmtext.specs.Words.{Word}
use Rattle.source.specs.Scopes.{is_in}
use Rattle.source.specs.Views.{has, seen_words}
use Rattle.sites.proofs.changes.set_of.Given as goal

abbrev pub invariant-loop-word : goal.invariant-loop-word
invariant-loop-word l = (w : Word) → has l.set w ≡ is_in (seen_words (take l.word-index l.words)) w
