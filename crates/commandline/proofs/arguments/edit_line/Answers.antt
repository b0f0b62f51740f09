use Rattle.std.proofs.Common.{rules, codes}
use Rattle.std.proofs.lemmas.Result.{IfOk-weaker}
use Rattle.clap.specs.Words.{App, new_app, with_rule}
use Rattle.commandline.specs.CommandLine.{IsLine, workers_rule, room_rule, output_rule, in_place_rule, replies_rule, partial_rule, force_rule, source_rule, scripts_rule}
use Rattle.commandline.proofs.Lines.{adds_argument}
use Rattle.commandline.proofs.arguments.edit_line.Goals as goal

abbrev bare_edit : App
bare_edit = new_app (codes "edit")

abbrev with_workers : App
with_workers = with_rule bare_edit workers_rule

abbrev with_room : App
with_room = with_rule with_workers room_rule

abbrev with_output : App
with_output = with_rule with_room output_rule

abbrev with_in_place : App
with_in_place = with_rule with_output in_place_rule

abbrev with_replies : App
with_replies = with_rule with_in_place replies_rule

abbrev with_partial : App
with_partial = with_rule with_replies partial_rule

abbrev with_force : App
with_force = with_rule with_partial force_rule

pub returns : goal.returns
returns c =
    let bare : IsLine bare_edit c.after_help.result = search rules in
    let workers = IfOk-weaker c.arg-line.result _ (IsLine with_workers)
    (λ new adds. adds_argument _ _ _ _ new adds bare c.workers.ensures) c.arg-line.ensures in
    let room = c.with_argument-line.ensures with_workers room_rule workers c.room.ensures in
    let output = c.with_argument-line-2.ensures with_room output_rule room c.option-output.ensures in
    let in_place = c.with_argument-line-3.ensures with_output in_place_rule output c.flag-in_place.ensures in
    let replies = c.with_argument-line-4.ensures with_in_place replies_rule in_place c.option-replies.ensures in
    let partial = c.with_argument-line-5.ensures with_replies partial_rule replies c.flag-partial.ensures in
    let force = c.with_argument-line-6.ensures with_partial force_rule partial c.flag-force.ensures in
    let source = c.with_argument-line-7.ensures with_force source_rule force c.file.ensures in
    c.with_argument.ensures (with_rule with_force source_rule) scripts_rule source c.scripts.ensures
