-- What is left to show of `fill`.
use Rattle.std.proofs.Common.{◌+◌, length, arith}
use Rattle.std.proofs.lemmas.Result.{err_from_is_err_and}
use Rattle.sourcecheck.specs.Spans.{cut}
use Rattle.sourcecheck.specs.Coded.{filled}
use Rattle.sourcecheck.proofs.Spans.{filled-one, filled-within, refused-more}
use Rattle.sourcecheck.proofs.stack.fill.Goals as goal

pub returns-in_err-fill_one-clause-kinds : goal.returns-in_err-fill_one-clause-kinds
returns-in_err-fill_one-clause-kinds c =
    let s = c.args.symbols.now.items in
    let now = c.loop-piece.symbols.items in
    let spans = c.args.spans.now in
    let pieces = c.args.pieces.now in
    let le = filled-within s now spans pieces c.loop-piece.piece-index _ c.requires c.loop-piece-test.true c.loop-piece.invariant.made in
    let p = err_from_is_err_and c.from_residual.result c.from_residual.ensures.1 in
    rw (p.1, p.2) (refused-more _ (length s + length (filled (cut s spans) pieces)) _ le c.in_err-fill_one.ensures.kinds)

pub loop-piece-preserved : goal.loop-piece-preserved
loop-piece-preserved c = record {
  made = filled-one c.args.symbols.now.items c.loop-piece.symbols.items c.fill_one.new.symbols.items c.args.spans.now c.args.pieces.now
      c.loop-piece.piece-index _ c.requires c.loop-piece-test.true c.loop-piece.invariant.made c.in_ok-fill_one.ensures.made;
  grows = omega (arith, c.loop-piece.invariant.grows, c.in_ok-fill_one.ensures.grows);
}
