use Rattle.tlwords.proofs.Openings.{opening_more}
use Rattle.tlwords.proofs.opening.cell_words.Goals as goal

pub loop-i-preserved : goal.loop-i-preserved
loop-i-preserved c =
    opening_more c.args.values.now c.loop-i.i _ c.loop-i.words.items c.push.new.self.items c.push-in-loop-i.new.self.items
    c.loop-i-test.true
    c.loop-i.invariant c.in_ok-push.ensures.items c.in_ok-push-2.ensures.items
