use Rattle.std.proofs.Common.{◌≡◌, length, sym, arith}
use Rattle.derivation.proofs.Nodes.{subst-none}
use Rattle.stepcheck.proofs.substitutes.conclude.Goals as goal

pub returns-then-symbols-gt-MOST_SYMBOLS-clause-kinds : goal.returns-then-symbols-gt-MOST_SYMBOLS-clause-kinds
returns-then-symbols-gt-MOST_SYMBOLS-clause-kinds c =
    let none : length c.args.substitution.now ≡ 0 = omega arith in
    rw (subst-none c.args.substitution.now c.args.symbols.now none) (omega arith)

pub returns-clause-value : goal.returns-clause-value
returns-clause-value c =
    let none : length c.args.substitution.now ≡ 0 = omega arith in
    (sym (subst-none c.args.substitution.now c.args.symbols.now none), omega arith)
