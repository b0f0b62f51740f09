use Rattle.std.proofs.Common.{rules, codes}
use Rattle.std.proofs.lemmas.Result.{IfOk-weaker}
use Rattle.clap.specs.Words.{App, new_app, with_rule}
use Rattle.commandline.specs.CommandLine.{IsLine, source_rule, library_rule, replayed_rule}
use Rattle.commandline.proofs.Lines.{adds_argument}
use Rattle.commandline.proofs.arguments.give_line.Goals as goal

abbrev bare_give : App
bare_give = new_app (codes "give")

abbrev with_source : App
with_source = with_rule bare_give source_rule

pub returns : goal.returns
returns c =
    let bare : IsLine bare_give c.after_help.result = search rules in
    let source = IfOk-weaker c.arg-line.result _ (IsLine with_source)
    (λ new adds. adds_argument _ _ _ _ new adds bare c.file.ensures) c.arg-line.ensures in
    let library = c.with_argument-line.ensures with_source library_rule source c.file-library.ensures in
    c.with_argument.ensures (with_rule with_source library_rule) replayed_rule library c.file-2.ensures
