-- What is left to show of `begins_with`.
use Rattle.std.proofs.Common.{List, Option, sym, subst}
use Rattle.std.specs.Prelude.{IfSome, Vec}
use Rattle.std.specs.declared.alloc.Global.{Global}
use Rattle.items.specs.declared.reading.Item.{Item as Found}
use Rattle.items.specs.Reading.{AreFound, AreItems}
use Rattle.arranging.proofs.Spelled.{found_spell}
use Rattle.arranging.proofs.naming.begins_with.Goals as goal

pub returns : goal.returns
returns c = λ holds.
    let text = c.args.text.now in
    let fs = c.in-Some.items.items in
    let are : AreItems text fs =
    subst (λ (o : Option (Vec Found Global)). IfSome o (λ found. AreItems text found.items)) c.in-Some.is c.in_ok-items.ensures.found in
    let found = subst (λ (gs : List Found). AreFound text 0 gs are.0) (sym c.as_slice.ensures.value) are.1 in
    let first = c.is_labelled.ensures text are.0 found holds in
    let spelled = found_spell text fs are.0 are.1 in
    record { items = are.0; rest = spelled.0; spells = spelled.1; first = first.0; stands = first.1; labelled = first.2 }
