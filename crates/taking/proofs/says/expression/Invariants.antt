-- What the loop of `expression` keeps: the symbols so far stand before those of the words that are left.
use Rattle.std.proofs.Common.{◌≡◌, drop}
use Rattle.source.specs.Views.{seen_words}
use Rattle.taking.specs.Says.{each}
use Rattle.taking.proofs.Symbols.{following}
use Rattle.taking.proofs.says.expression.Given as goal

abbrev pub invariant-loop-word : goal.invariant-loop-word
invariant-loop-word g l =
    each (g.P.SymbolPlaces.placed l.places) (seen_words l.words)
    ≡ following l.symbols.items (each (g.P.SymbolPlaces.placed l.places) (drop l.word-index (seen_words l.words)))
