-- What the loop of `put_symbols` keeps.
use Rattle.std.proofs.Common.{◌≡◌, ◌++◌, take, map}
use Rattle.mmsyntax.specs.Layout.{spaced, symbol_word}
use Rattle.mmwriter.proofs.writing.put_symbols.Given as goal

abbrev pub invariant-loop-symbol : goal.invariant-loop-symbol
invariant-loop-symbol l = l.out.items ≡ l.fn.out.items ++ spaced (map (symbol_word l.prelude) (take l.symbol-index l.symbols))
