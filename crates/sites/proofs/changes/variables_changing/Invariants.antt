-- What the loop of `variables_changing` keeps: the flags and the words from a place on.
use Rattle.std.proofs.Common.{◌≡◌, drop}
use Rattle.std.specs.Prelude.{reverse}
use Rattle.mmtext.specs.Words.{Word}
use Rattle.source.specs.Scopes.{is_in}
use Rattle.source.specs.Views.{has, seen_words}
use Rattle.sites.specs.Changes.{variables_changing}
use Rattle.sites.proofs.changes.variables_changing.Given as goal

abbrev pub invariant-loop-place : goal.invariant-loop-place
invariant-loop-place l = record {
  flags : reverse l.changes.items ≡ variables_changing (seen_words (drop l.place l.words));
  words_are : (w : Word) → has l.later w ≡ is_in (seen_words (drop l.place l.words)) w;
}
