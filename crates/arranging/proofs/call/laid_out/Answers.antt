use Rattle.std.proofs.Common.{[], All, sym, subst}
use Rattle.std.specs.Prelude.{IfNone}
use Rattle.arranging.specs.Places.{MayCome}
use Rattle.leaving.specs.Leaving.{AreGoing}
use Rattle.arranging.proofs.call.laid_out.Goals as goal

pub returns-clause-laid : goal.returns-clause-laid
returns-clause-laid c = λ e old known all.
    let source = c.args.text.now in
    let check = c.in_ok-checker.ensures e old known in
    let may =
    subst (λ made. IfNone made (All (MayCome e old) c.args.comings.now)) c.in_default.is
    (c.first_misplaced.ensures.all e source old check all) in
    let going = subst (AreGoing [] c.args.parts.now) (sym c.as_slice.ensures.value) c.in_ok-goes.ensures in
    c.layout_of.ensures.laid e old (subst (λ ps. AreGoing [] ps c.as_slice.result.now) known.parts_are going) may
