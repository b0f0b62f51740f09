use Rattle.std.proofs.lemmas.Result.{err_from_is_err_and}
use Rattle.stepcheck.proofs.Replaced.{piece-made, too-long-before}
use Rattle.stepcheck.proofs.substitutes.make.Goals as goal

pub loop-symbol-preserved : goal.loop-symbol-preserved
loop-symbol-preserved c = record {
  so_far = piece-made c.args.substitution.now c.args.symbols.now c.loop-symbol.made.items c.add_piece.new.made.items
      c.loop-symbol.symbol-index c.symbol-item.result c.loop-symbol-test.true c.symbol-item.is c.loop-symbol.invariant.so_far
      c.in_ok-add_piece.ensures.value.0;
  short = c.in_ok-add_piece.ensures.value.1;
}

pub returns-in_err-add_piece-clause-kinds : goal.returns-in_err-add_piece-clause-kinds
returns-in_err-add_piece-clause-kinds c =
    let p = err_from_is_err_and c.from_residual.result c.from_residual.ensures.1 in
    rw (p.1, p.2) (too-long-before c.args.substitution.now c.args.symbols.now c.loop-symbol.made.items c.loop-symbol.symbol-index 65535
    c.symbol-item.result _ c.loop-symbol-test.true c.symbol-item.is c.loop-symbol.invariant.so_far c.in_err-add_piece.ensures.kinds)
