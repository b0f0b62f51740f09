use Rattle.arranging.proofs.Known.{is_listed}
use Rattle.arranging.proofs.checking.Checker.was_moved.Goals as goal

pub returns : goal.returns
returns c = λ e source old known holds.
    is_listed e.moved c.args.self.now.moved.now c.args.label.now c.text_for.result c.is_some.result known.known.moved_are
    c.text_for.ensures c.is_some.ensures holds
