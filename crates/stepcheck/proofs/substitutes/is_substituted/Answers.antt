use Rattle.std.proofs.lemmas.Option.{MatchOption-at_some, MatchOption-at_none}
use Rattle.std.proofs.lemmas.Slice.Eq.{strip_prefix_is}
use Rattle.std.proofs.Common.{[], ◌∷◌, ap, ◌∙◌}
use Rattle.mmsyntax.specs.declared.statement.Symbol.{Symbol}
use Rattle.mmframes.specs.Substitution.{subst}
use Rattle.derivation.proofs.Nodes.{subst-drop, symbol_decides, piece-matches, piece-fails}
use Rattle.stepcheck.proofs.substitutes.is_substituted.Goals as goal

pub returns-in-None : goal.returns-in-None
returns-in-None c =
    let s = c.args.substitution.now in
    let made = c.piece.ensures ∙ ap (λ (x : Symbol). subst s (x ∷ [])) c.symbol-item.is in
    let cases = strip_prefix_is symbol_decides _ _ _ c.strip_prefix.ensures.cases in
    let apart = MatchOption-at_none _ _ c.in-None.is cases in (
      λ t. cc,
      λ g. absurd (piece-fails _ _ _ _ _ _
          (subst-drop s c.args.symbols.now c.loop-symbol.symbol-index c.symbol-item.result c.loop-symbol-test.true) made apart
          c.loop-symbol.invariant g),
    )

pub loop-symbol-preserved : goal.loop-symbol-preserved
loop-symbol-preserved c =
    let s = c.args.substitution.now in
    let made = c.piece.ensures ∙ ap (λ (x : Symbol). subst s (x ∷ [])) c.symbol-item.is in
    let cases = strip_prefix_is symbol_decides _ _ _ c.strip_prefix.ensures.cases in
    let yes = MatchOption-at_some _ _ _ c.in-Some.is cases in
    piece-matches _ _ _ _ _ _ _ (subst-drop s c.args.symbols.now c.loop-symbol.symbol-index c.symbol-item.result c.loop-symbol-test.true)
    made yes c.loop-symbol.invariant
