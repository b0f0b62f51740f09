-- What the loop of `add_variables` keeps.
use Rattle.std.proofs.Common.{◌≡◌}
use Rattle.mmsyntax.proofs.Copies.{variables_before}
use Rattle.mmsyntax.proofs.symbols.SymbolTable.add_variables.Given as goal

abbrev pub invariant-loop-name : goal.invariant-loop-name
invariant-loop-name l = l.self ≡ variables_before l.from l.name-index
