-- What the loop of `add_constants` keeps.
use Rattle.std.proofs.Common.{◌≡◌}
use Rattle.mmsyntax.proofs.Copies.{constants_before}
use Rattle.mmsyntax.proofs.symbols.SymbolTable.add_constants.Given as goal

abbrev pub invariant-loop-name : goal.invariant-loop-name
invariant-loop-name l = l.self ≡ constants_before l.from l.name-index
