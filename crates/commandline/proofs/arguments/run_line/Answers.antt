use Rattle.std.proofs.Common.{rules, codes}
use Rattle.std.proofs.lemmas.Result.{IfOk-weaker}
use Rattle.clap.specs.Words.{App, new_app, with_rule}
use Rattle.commandline.specs.CommandLine.{IsLine, workers_rule, room_rule, history_rule, database_rule, scripts_rule}
use Rattle.commandline.proofs.Lines.{adds_argument}
use Rattle.commandline.proofs.arguments.run_line.Goals as goal

abbrev bare_run : App
bare_run = new_app (codes "run")

abbrev with_workers : App
with_workers = with_rule bare_run workers_rule

abbrev with_room : App
with_room = with_rule with_workers room_rule

abbrev with_history : App
with_history = with_rule with_room history_rule

pub returns : goal.returns
returns c =
    let bare : IsLine bare_run c.about.result = search rules in
    let workers = IfOk-weaker c.arg-line.result _ (IsLine with_workers)
    (λ new adds. adds_argument _ _ _ _ new adds bare c.workers.ensures) c.arg-line.ensures in
    let room = c.with_argument-line.ensures with_workers room_rule workers c.room.ensures in
    let history = c.with_argument-line-2.ensures with_room history_rule room c.option-history.ensures in
    let database = c.with_argument-line-3.ensures with_history database_rule history c.file.ensures in
    c.with_argument.ensures (with_rule with_history database_rule) scripts_rule database c.scripts.ensures
