-- What is left to show of `take_all`.
use Rattle.sourceediting.specs.Views.{seen_following}
use Rattle.sourceediting.proofs.Labels.{command_more}
use Rattle.sourceediting.proofs.following.Following.take_all.Goals as goal

pub loop-command-preserved : goal.loop-command-preserved
loop-command-preserved c =
    command_more c.args.commands.now c.loop-command.command-index c.command-item.result (seen_following c.args.self.now)
    (seen_following c.loop-command.self) _ c.loop-command-test.true c.command-item.is c.loop-command.invariant c.in_ok-take.ensures
