-- What is left to show of `put_commands`: the lines of one more command.
use Rattle.std.proofs.Common.{◌++◌, ap, ◌∙◌}
use Rattle.historytext.specs.Layout.{command_text}
use Rattle.mmwriter.proofs.Pieces.{lines_more}
use Rattle.historytext.proofs.transactions.put_commands.Goals as goal

pub loop-command-preserved : goal.loop-command-preserved
loop-command-preserved c =
    let f = command_text c.args.prelude.now in
    let command = c.command-item.result in
    lines_more f c.args.commands.now c.loop-command.command-index command command c.args.out.now.items c.put_command.new.out.items
    c.loop-command-test.true c.command-item.is (c.in_ok-put_command.ensures ∙ ap (λ text. text ++ f command) c.loop-command.invariant)
