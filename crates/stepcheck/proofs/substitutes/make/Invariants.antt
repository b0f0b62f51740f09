use Rattle.std.proofs.Common.{◌≡◌, ◌++◌, ◌≤◌, drop, length}
use Rattle.mmframes.specs.Substitution.{subst}
use Rattle.stepcheck.proofs.substitutes.make.Given as goal

abbrev pub invariant-loop-symbol : goal.invariant-loop-symbol
invariant-loop-symbol l = record {
  so_far : l.made.items ++ subst l.substitution (drop l.symbol-index l.symbols) ≡ subst l.substitution l.symbols;
  short : length l.made.items ≤ 65535;
}
