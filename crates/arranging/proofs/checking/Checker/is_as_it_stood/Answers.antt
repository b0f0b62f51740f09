use Rattle.arranging.proofs.Known.{is_empty, stood}
use Rattle.arranging.proofs.checking.Checker.is_as_it_stood.Goals as goal

pub returns : goal.returns
returns c = λ e source old known holds.
    let checker = c.args.self.now in
    let coming = c.args.coming in
    let cut = c.in-Some-Some in
    stood e old checker.parts.now known.known.parts_are coming c.args.label.now cut.before.now cut.unit.now cut.ensures.lookup.0.2
    cut.ensures'.lookup.0.2 (c.was_moved.ensures e source old known c.if-not-was_moved.false)
    (c.is_alone.ensures e source old known c.if-not-is_alone.false)
    (c.is_outermost.ensures e source old known c.if-not-is_outermost.false)
    (is_empty coming.front.now c.is_empty.result c.is_empty.ensures c.if-not-is_empty.false)
    (is_empty coming.back.now c.is_empty-else-not-is_empty.result c.is_empty-else-not-is_empty.ensures c.if-not-is_empty-2.false)
    (c.is_whole.ensures holds)
