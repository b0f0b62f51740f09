use Rattle.transaction.proofs.Trying.{tried_none, tried_more, submits}
use Rattle.transaction.proofs.session.Session.submit.Goals as goal

pub loop-init : goal.loop-init
loop-init g c = tried_none c.args.commands.now c.args.self.now

pub loop-preserved : goal.loop-preserved
loop-preserved g c =
    tried_more c.args.commands.now c.args.self.now c.loop.self c.attempt-outcome.new.self c.attempt-outcome.result c.loop.invariant
    c.attempt-outcome.ensures
    (record { place = c.in-Conflict.place; cell = c.in-Conflict.cell; word = c.in-Conflict.word; before = c.in-Conflict.before })
    c.in-Conflict.is

pub returns-in_default : goal.returns-in_default
returns-in_default g c =
    submits c.args.commands.now c.args.self.now c.loop.self c.attempt-outcome.new.self c.attempt-outcome.result c.loop.invariant
    c.attempt-outcome.ensures (λ met. c.in_default.not-Conflict met.place met.cell met.word met.before)
