-- What is left to show of `all_discouraged`.
use Rattle.std.proofs.Common.{◌≡◌, ◌∙◌, [], get_or, map, take, sym, ap, subst}
use Rattle.std.specs.Option.{option_map}
use Rattle.std.specs.Prelude.{filter_map}
use Rattle.std.proofs.lemmas.List.{map_more}
use Rattle.expanding.specs.Bars.{seen_command}
use Rattle.expanding.specs.Bearing.{names_of}
use Rattle.expanding.specs.Discouraged.{told_of}
use Rattle.expanding.specs.Views.{seen_found}
use Rattle.expanding.specs.declared.commands.Command.{Command as CodeCommand}
use Rattle.expanding.proofs.Gathered.{gathered_some, gathered_none, no_view}
use Rattle.expanding.proofs.names.Names.all_discouraged.Goals as goal
use Rattle.expanding.proofs.names.Names.all_discouraged.Goals.{in-Some+in_ok-push, in_default}

pub loop-command-preserved : goal.loop-command-preserved
loop-command-preserved g c =
    let s = g.D.Declared.scope c.args.declared.now in
    let commands = c.args.commands.now in
    let i = c.loop-command.command-index in
    let d : CodeCommand = record { script = 0; words = record { ref_ptr = (0, 0); now = [] } } in
    let f = told_of s (names_of s c.args.self.now) in
    let front = map seen_command (take i commands) in
    let x = seen_command (get_or commands i d) in
    let more = map_more seen_command commands i d c.loop-command-test.true in
    let is = c.told_of.ensures in
    elim c.match-told_of.branch [
      | in-Some+in_ok-push w ↦
          ap (λ v. map seen_found v.items) w.all-is
          ∙ (ap (map seen_found) w.in_ok-push.ensures.items
          ∙ (gathered_some seen_found f front x c.loop-command.all.items _ c.loop-command.invariant
          (subst (λ o. o ≡ f x) (ap (λ r. option_map seen_found r) w.in-Some.is) is)
          ∙ ap (filter_map f) (sym more)))
      | in_default w ↦
          ap (λ v. map seen_found v.items) w.all-is
          ∙ (gathered_none seen_found f front x c.loop-command.all.items c.loop-command.invariant
          (no_view seen_found c.told_of.result w.in_default.not-Some ∙ is)
          ∙ ap (filter_map f) (sym more))
    ]
