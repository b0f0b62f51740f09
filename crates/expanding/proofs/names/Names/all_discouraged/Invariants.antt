-- What the loop of `all_discouraged` keeps: those of the commands so far.
use Rattle.std.proofs.Common.{◌≡◌, map, take}
use Rattle.expanding.specs.Bars.{seen_command}
use Rattle.expanding.specs.Bearing.{names_of}
use Rattle.expanding.specs.Discouraged.{all_discouraged}
use Rattle.expanding.specs.Views.{seen_found}
use Rattle.expanding.proofs.names.Names.all_discouraged.Given as goal

abbrev pub invariant-loop-command : goal.invariant-loop-command
invariant-loop-command g l =
    let s = g.D.Declared.scope l.declared in
    map seen_found l.all.items ≡ all_discouraged s (names_of s l.self) (map seen_command (take l.command-index l.commands))
