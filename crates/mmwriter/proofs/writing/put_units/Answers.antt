-- What is left to show of `put_units`.
use Rattle.std.proofs.Common.{◌++◌, ap, ◌∙◌}
use Rattle.mmsyntax.specs.Layout.{assertion_text}
use Rattle.mmwriter.proofs.Pieces.{lines_more}
use Rattle.mmwriter.proofs.writing.put_units.Goals as goal

pub loop-assertion-preserved : goal.loop-assertion-preserved
loop-assertion-preserved c =
    let f = assertion_text c.args.prelude.now in
    lines_more f c.args.assertions.now c.loop-assertion.assertion-index c.assertion-item.result c.assertion-item.result c.args.out.now.items
    c.put_assertion.new.out.items c.loop-assertion-test.true
    c.assertion-item.is (c.in_ok-put_assertion.ensures ∙ ap (λ x. x ++ f c.assertion-item.result) c.loop-assertion.invariant)
