use Rattle.std.specs.Prelude.{slice_range}
use Rattle.items.specs.Items.{pieces_of}
use Rattle.arranging.proofs.Under.{stands_there}
use Rattle.arranging.proofs.checking.Checker.has_word.Goals as goal

pub returns-in-Some-Some : goal.returns-in-Some-Some
returns-in-Some-Some c = λ e source old known holds.
    let first = c.args.first in
    let end = c.args.end in
    let checker = c.args.self.now in
    let from = c.in-Some-Some.ensures.is in
    let to = c.in-Some-Some.ensures'.is in
    c.is_word_between.ensures.of_item (pieces_of (slice_range old first end))
    (stands_there checker.text.now source checker.items.now old first end c.in-Some-Some.from c.in-Some-Some.to known.text_is
    known.known.found from.0 to.0 c.if-first-end.false to.1) holds
