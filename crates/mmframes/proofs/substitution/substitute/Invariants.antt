use Rattle.std.proofs.Common.{◌≡◌, ◌≤◌, ◌++◌, drop, vec_len}
use Rattle.mmframes.specs.Substitution.{subst}
use Rattle.mmframes.proofs.substitution.substitute.Given as goal

abbrev pub invariant-loop-symbol : goal.invariant-loop-symbol
invariant-loop-symbol l = record {
  made_so_far : l.made.items ++ subst l.pairs (drop l.symbol-index l.symbols) ≡ subst l.pairs l.symbols;
  short : vec_len l.made ≤ 65535;
}
