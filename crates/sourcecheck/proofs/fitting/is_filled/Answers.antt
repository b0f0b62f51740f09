-- What is left to show of `is_filled`.
use Rattle.std.proofs.lemmas.Option.{MatchOption-at_some, MatchOption-at_none}
use Rattle.std.proofs.lemmas.Slice.Eq.{strip_prefix_is}
use Rattle.std.proofs.lemmas.Bool.Decides.{Decides-eqb}
use Rattle.sourcecheck.proofs.Zipped.{next_piece, piece_matches, piece_fails}
use Rattle.sourcecheck.proofs.fitting.is_filled.Goals as goal

pub returns-in-None : goal.returns-in-None
returns-in-None c =
    let es = c.args.arguments.now in
    let cases = strip_prefix_is Decides-eqb _ _ _ c.strip_prefix.ensures.cases in
    let apart = MatchOption-at_none _ _ c.in-None.is cases in (
      λ t. cc,
      λ g. absurd (piece_fails _ _ _ _ _ _ (next_piece es c.args.pieces.now c.loop-piece.piece-index _ c.loop-piece-test.true)
          c.value_of.ensures apart c.loop-piece.invariant g),
    )

pub loop-piece-preserved : goal.loop-piece-preserved
loop-piece-preserved c =
    let es = c.args.arguments.now in
    let cases = strip_prefix_is Decides-eqb _ _ _ c.strip_prefix.ensures.cases in
    let yes = MatchOption-at_some _ _ _ c.in-Some.is cases in
    piece_matches _ _ _ _ _ _ _ (next_piece es c.args.pieces.now c.loop-piece.piece-index _ c.loop-piece-test.true)
    c.value_of.ensures yes c.loop-piece.invariant
