-- What is left to show of `put_hypotheses`.
use Rattle.std.proofs.Common.{◌++◌, ◌+◌, refl, ap, ◌∙◌, map}
use Rattle.mmsyntax.specs.Grammar.{hypothesis, piece_spelling}
use Rattle.mmsyntax.specs.Layout.{hypothesis_label, symbol_word, indented}
use Rattle.mmwriter.proofs.Pieces.{one_more}
use Rattle.mmwriter.proofs.writing.put_hypotheses.Goals as goal

pub loop-place-preserved : goal.loop-place-preserved
loop-place-preserved c =
    let t = c.args.prelude.now in
    let label = c.args.label.now in
    let i = c.loop-place.place in
    let e = c.as_slice.result.now in
    let last = indented (piece_spelling (hypothesis (hypothesis_label label (i + 1)) (map (symbol_word t) e))) in
    one_more t label c.args.hyps.now i (i + 1) e c.index-hyps-place.result c.args.out.now.items c.put_hypothesis.new.out.items
    c.loop-place-test.true
    (c.as_slice.ensures ∙ c.index-hyps-place.is) refl (c.in_ok-put_hypothesis.ensures ∙ ap (λ x. x ++ last) c.loop-place.invariant)
