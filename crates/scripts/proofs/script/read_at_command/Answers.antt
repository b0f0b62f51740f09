-- What is left to show of `read_at_command`.
use Rattle.std.proofs.Common.{refl, sym, subst}
use Rattle.std.specs.Prelude.{codes}
use Rattle.mmtext.specs.Views.{seen, Gives}
use Rattle.scripts.specs.ScriptFaults.{command_word}
use Rattle.scripts.specs.ScriptViews.{seen_at}
use Rattle.scripts.proofs.ScriptRows.{word_row}
use Rattle.scripts.proofs.script.read_at_command.Goals as goal

pub returns : goal.returns
returns c = λ t.
    let s = c.args.script.now.items in
    let cs = c.args.commands.items in
    let u = seen c.args.token in
    let row = word_row t s cs u (codes "commit") c.is_word.result refl c.is_word.ensures c.if-is_word.false in
    subst (Gives (seen_at t s) c.go_on.result) (sym row) (c.go_on.ensures t s u (command_word t u.text) (c.read_command_word.ensures t))
