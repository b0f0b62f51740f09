use Rattle.std.proofs.Common.{subst, Result}
use Rattle.std.specs.Prelude.{IfOk}
use Rattle.std.specs.declared.alloc.AllocError.{AllocError}
use Rattle.std.proofs.lemmas.Result.{IfOk-weaker}
use Rattle.clap.specs.declared.builder.command.Command.{Command}
use Rattle.commandline.specs.CommandLine.{IsLine}
use Rattle.commandline.proofs.Lines.{adds_subcommand}
use Rattle.commandline.proofs.arguments.with_line.Goals as goal

pub returns-in-Ok-Ok : goal.returns-in-Ok-Ok
returns-in-Ok-Ok c = λ app sub line below.
    let before : IsLine app c.in-Ok-Ok.line = subst (λ (r : Result Command AllocError). IfOk r (IsLine app)) c.in-Ok-Ok.is-0 line in
    let added : IsLine sub c.in-Ok-Ok.below = subst (λ (r : Result Command AllocError). IfOk r (IsLine sub)) c.in-Ok-Ok.is-1 below in
    IfOk-weaker c.subcommand.result _ _ (λ new adds. adds_subcommand app sub _ _ new adds before added) c.subcommand.ensures
