-- What is left to show of `read_at_command`.
use Rattle.std.proofs.Common.{◌≡◌, false, ap, sym, subst, ◌∙◌}
use Rattle.std.specs.Prelude.{codes, []}
use Rattle.std.specs.Str.{bytes_eq}
use Rattle.std.proofs.lemmas.Bool.{cond-false}
use Rattle.mmtext.specs.Views.{seen, Gives}
use Rattle.scripts.specs.ScriptFaults.{command_word}
use Rattle.historytext.specs.Places.{asked, replies_left}
use Rattle.historytext.specs.Views.{seen_at}
use Rattle.historytext.proofs.entry_rows.read_at_command.Goals as goal

pub returns : goal.returns
returns c = λ t.
    let u = seen c.args.token in
    let es = c.args.entries.now.items in
    let cs = c.args.commands.items in
    let not : bytes_eq u.text (codes "commit") ≡ false = ap (bytes_eq u.text) (sym c.as_slice.ensures) ∙ sym c.eq.ensures ∙ c.if-eq.false in
    let is = cond-false (bytes_eq u.text (codes "commit")) (replies_left es c.args.left cs [])
    (asked es c.args.left cs u (command_word t u.text)) not in
    subst (Gives (seen_at t es) c.go_on_asking.result) (sym is)
    (c.go_on_asking.ensures t es u (command_word t u.text) (c.read_command_word.ensures t))
