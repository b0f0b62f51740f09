-- What the loop of `symbols_in` keeps: the symbols so far, and those behind them.
use Rattle.std.proofs.Common.{◌≡◌, ◌++◌, map, drop}
use Rattle.mmtext.specs.Views.{seen}
use Rattle.source.specs.Views.{seen_words}
use Rattle.pasting.specs.Additions.{symbols_in}
use Rattle.pasting.proofs.addition.symbols_in.Given as goal

abbrev pub invariant-loop-word : goal.invariant-loop-word
invariant-loop-word l = symbols_in (map seen l.words) ≡ seen_words l.symbols.items ++ symbols_in (map seen (drop l.word-index l.words))
