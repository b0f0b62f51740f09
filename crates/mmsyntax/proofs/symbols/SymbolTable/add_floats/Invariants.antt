-- What the loop of `add_floats` keeps.
use Rattle.std.proofs.Common.{◌≡◌}
use Rattle.mmsyntax.proofs.Copies.{floats_before}
use Rattle.mmsyntax.proofs.symbols.SymbolTable.add_floats.Given as goal

abbrev pub invariant-loop-float : goal.invariant-loop-float
invariant-loop-float l = l.self ≡ floats_before l.from l.float-index
