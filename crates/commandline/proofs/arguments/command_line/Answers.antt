use Rattle.std.proofs.Common.{rules}
use Rattle.clap.specs.Words.{App, with_subcommand}
use Rattle.commandline.specs.CommandLine.{IsLine, bare_app, check_app, run_app, replay_app, take_app, give_app, verify_app, edit_app}
use Rattle.commandline.proofs.arguments.command_line.Goals as goal

abbrev with_check : App
with_check = with_subcommand bare_app check_app.top

abbrev with_run : App
with_run = with_subcommand with_check run_app.top

abbrev with_replay : App
with_replay = with_subcommand with_run replay_app.top

abbrev with_take : App
with_take = with_subcommand with_replay take_app.top

abbrev with_give : App
with_give = with_subcommand with_take give_app.top

pub returns : goal.returns
returns c =
    let bare : IsLine bare_app c.arg_required_else_help-line.result = search rules in
    let check = c.with_line-line.ensures bare_app check_app bare c.check_line.ensures in
    let run = c.with_line-line-2.ensures with_check run_app check c.run_line.ensures in
    let replay = c.with_line-line-3.ensures with_run replay_app run c.replay_line.ensures in
    let take = c.with_line-line-4.ensures with_replay take_app replay c.take_line.ensures in
    let give = c.with_line-line-5.ensures with_take give_app take c.give_line.ensures in
    let verify = c.with_line-line-6.ensures with_give verify_app give c.verify_line.ensures in
    c.with_line.ensures (with_subcommand with_give verify_app.top) edit_app verify c.edit_line.ensures
