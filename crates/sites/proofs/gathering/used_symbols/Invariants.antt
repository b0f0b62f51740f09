-- What the loop of `used_symbols` keeps: those so far.
use Rattle.std.proofs.Common.{◌≡◌, take}
use Rattle.std.specs.Prelude.{filter}
use Rattle.source.specs.Views.{has, seen_words}
use Rattle.sites.proofs.gathering.used_symbols.Given as goal

abbrev pub invariant-loop-word : goal.invariant-loop-word
invariant-loop-word l = seen_words l.made.items ≡ filter (has l.used.symbols) (seen_words (take l.word-index l.words))
