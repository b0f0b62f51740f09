use Rattle.std.proofs.Common.{rules, codes}
use Rattle.std.proofs.lemmas.Result.{IfOk-weaker}
use Rattle.clap.specs.Words.{App, new_app, with_rule}
use Rattle.commandline.specs.CommandLine.{IsLine, checkers_rule, source_rule}
use Rattle.commandline.proofs.Lines.{adds_argument}
use Rattle.commandline.proofs.arguments.verify_line.Goals as goal

abbrev bare_verify : App
bare_verify = new_app (codes "verify")

abbrev with_checkers : App
with_checkers = with_rule bare_verify checkers_rule

pub returns : goal.returns
returns c =
    let bare : IsLine bare_verify c.after_help.result = search rules in
    let checkers = IfOk-weaker c.arg-line.result _ (IsLine with_checkers)
    (λ new adds. adds_argument _ _ _ _ new adds bare c.checkers.ensures) c.arg-line.ensures in
    c.with_argument.ensures with_checkers source_rule checkers c.file.ensures
