-- What is left to show of `opens_block`.
use Rattle.std.proofs.Common.{subst}
use Rattle.items.specs.Reading.{IsOfKind}
use Rattle.items.specs.declared.reading.Kind.TheVariants.{Opening}
use Rattle.arranging.proofs.Anew.{front_opens}
use Rattle.arranging.proofs.group.opens_block.Goals as goal

pub returns-in-Opening : goal.returns-in-Opening
returns-in-Opening c =
    let is = c.in-Some.ensures.item in
    let opens : IsOfKind Opening is.item = subst (λ k. IsOfKind k is.item) c.in-Opening.is is.kind in
    front_opens c.args.text.now c.in-Some.first.end is.item c.is_frame.result c.then_some-in-Opening.result
    c.then_some-in-Opening.ensures is.stands opens (c.is_in_lines.ensures is.item is.stands c.if-is_in_lines.true) c.is_frame.ensures
