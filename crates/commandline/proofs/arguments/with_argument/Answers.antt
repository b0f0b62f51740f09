use Rattle.std.proofs.Common.{subst, Result}
use Rattle.std.specs.Prelude.{IfOk}
use Rattle.std.specs.declared.alloc.AllocError.{AllocError}
use Rattle.std.proofs.lemmas.Result.{IfOk-weaker}
use Rattle.clap.specs.declared.builder.command.Command.{Command}
use Rattle.commandline.specs.CommandLine.{IsLine}
use Rattle.commandline.proofs.Lines.{adds_argument}
use Rattle.commandline.proofs.arguments.with_argument.Goals as goal

pub returns-in-Ok : goal.returns-in-Ok
returns-in-Ok c = λ app rule line argument.
    let before : IsLine app c.in-Ok.line = subst (λ (r : Result Command AllocError). IfOk r (IsLine app)) c.in-Ok.is line in
    IfOk-weaker c.arg.result _ _ (λ new adds. adds_argument app rule _ _ new adds before argument) c.arg.ensures
