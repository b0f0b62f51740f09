-- What is left to show of `numbers_of`.
use Rattle.givetext.proofs.Orders.{numbered, numbers_more}
use Rattle.givetext.proofs.standing.numbers_of.Goals as goal
use Rattle.givetext.proofs.standing.numbers_of.Goals.{in-Assertion+in_ok-insert, in_default}

pub loop-number-preserved : goal.loop-number-preserved
loop-number-preserved c =
    let items = c.args.items.now in
    let i = c.loop-number.number in
    elim c.match-item.branch [
      | in-Assertion+in_ok-insert w ↦
          let label = w.in-Assertion.label in
          rw w.numbers-is
          (numbers_more items c.loop-number.numbers w.insert.new.self label.now i c.loop-number.invariant
          (numbered items i _ label c.loop-number-test.true w.in-Assertion.is) w.in_ok-insert.ensures.updates)
      | in_default w ↦ rw w.numbers-is c.loop-number.invariant
    ]
