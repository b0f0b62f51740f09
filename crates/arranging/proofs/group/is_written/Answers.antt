-- What is left to show of `is_written`.
use Rattle.arranging.proofs.Anew.{written}
use Rattle.arranging.proofs.group.is_written.Goals as goal

pub returns-in-Some-opens_block : goal.returns-in-Some-opens_block
returns-in-Some-opens_block c = λ holds.
    written c.args.coming c.in-Some.lines.now c.in-Some-opens_block.opened c.in-Some.ensures (c.is_plain.ensures c.if-not-is_plain.false)
    (c.is_plain-else-not-is_plain.ensures c.if-not-is_plain-2.false) c.in-Some-opens_block.ensures (c.is_back.ensures holds)
