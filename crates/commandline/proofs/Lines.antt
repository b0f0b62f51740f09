-- A command line grows by an argument, and by a subcommand.
use Rattle.std.proofs.Common.{◌∙◌, ap, ap₂, refl}
use Rattle.clap.specs.declared.builder.arg.Arg.{Arg}
use Rattle.clap.specs.declared.builder.command.Command.{Command}
use Rattle.clap.specs.Words.{App, Rule, AddsArg, AddsSubcommand, with_rule, with_subcommand}
use Rattle.commandline.specs.CommandLine.{IsArgument, IsLine}

pub adds_argument : (app : App) (rule : Rule) (old : Command) (a : Arg) (new : Command) → AddsArg old a new → IsLine app old
    → IsArgument rule a
    → IsLine (with_rule app rule) new
adds_argument app rule old a new h line argument =
    let globals = h.globals in
    (h.shape argument.1 ∙ ap₂ with_rule line.0 argument.0, rw (globals, line.1, argument.1) refl)

pub adds_subcommand : (app s : App) (old sub new : Command) → AddsSubcommand old sub new → IsLine app old → IsLine s sub
    → IsLine (with_subcommand app s.top) new
adds_subcommand app s old sub new h line below =
    let globals = h.globals in
    (h.shape below.1 ∙ ap₂ with_subcommand line.0 (ap (λ (b : App). b.top) below.0), rw (globals, line.1, below.1) refl)
