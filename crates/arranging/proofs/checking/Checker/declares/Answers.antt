use Rattle.std.proofs.Common.{◌≤◌, ◌+◌, subst, arith}
use Rattle.items.specs.Reading.{Stands}
use Rattle.arranging.proofs.Under.{stands_there, pieces_of_one}
use Rattle.arranging.proofs.checking.Checker.declares.Goals as goal

pub returns-in-Some-Some : goal.returns-in-Some-Some
returns-in-Some-Some c = λ e source old known holds x at.
    let item = c.args.item in
    let checker = c.args.self.now in
    let from = c.in-Some-Some.ensures.is in
    let end = c.in-Some-Some.ensures'.is in
    let le : item ≤ item + 1 = omega arith in
    c.declares.ensures x
    (subst (λ y. Stands checker.text.now c.in-Some-Some.from y c.in-Some-Some.end) (pieces_of_one old item x at)
    (stands_there checker.text.now source checker.items.now old item (item + 1) c.in-Some-Some.from c.in-Some-Some.end known.text_is
    known.known.found from.0 end.0 le end.1)) holds
