use Rattle.std.proofs.Common.{rules, codes}
use Rattle.std.proofs.lemmas.Result.{IfOk-weaker}
use Rattle.clap.specs.Words.{App, new_app, with_rule}
use Rattle.commandline.specs.CommandLine.{IsLine, for_rule, from_rule, to_rule, source_rule}
use Rattle.commandline.proofs.Lines.{adds_argument}
use Rattle.commandline.proofs.arguments.take_line.Goals as goal

abbrev bare_take : App
bare_take = new_app (codes "take")

abbrev with_asked : App
with_asked = with_rule bare_take for_rule

abbrev with_first : App
with_first = with_rule with_asked from_rule

pub returns : goal.returns
returns c =
    let bare : IsLine bare_take c.after_help-line.result = search rules in
    let asked = IfOk-weaker c.arg-line.result _ (IsLine with_asked)
    (λ new adds. adds_argument _ _ _ _ new adds bare c.option-asked.ensures) c.arg-line.ensures in
    let first = c.with_argument-line.ensures with_asked from_rule asked c.option-first.ensures in
    let last = c.with_argument-line-2.ensures with_first to_rule first c.option-last.ensures in
    c.with_argument.ensures (with_rule with_first to_rule) source_rule last c.file.ensures
