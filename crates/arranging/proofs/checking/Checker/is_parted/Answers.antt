use Rattle.std.proofs.Common.{length, refl}
use Rattle.std.proofs.lemmas.Option.{slice_get_read}
use Rattle.arranging.proofs.Known.{not_other, parted}
use Rattle.arranging.proofs.checking.Checker.is_parted.Goals as goal

pub returns : goal.returns
returns c = λ e source old known holds.
    let checker = c.args.self.now in
    let items = checker.items.now in
    let coming = c.args.coming in
    let label = c.args.label.now in
    let cut = c.in-Some-Some-Some in
    let at = cut.ensures''.lookup.3 in
    parted e old checker.parts.now known.known.parts_are coming label cut.before.now cut.unit.now cut.ensures.lookup.0.2
    cut.ensures'.lookup.0.2 source items cut.item.now c.in-Assertion.other known.known.found
    (slice_get_read items (length items) coming.end cut.item.now refl at.0 (at.1 cut.item.now)) c.in-Assertion.is
    (not_other c.in-Assertion.other.now label c.if-ne.ensures) (c.is_description.ensures c.if-not-is_description.false)
    (c.is_inside.ensures e source old known holds) (c.is_written.ensures c.if-not-is_written.false)
