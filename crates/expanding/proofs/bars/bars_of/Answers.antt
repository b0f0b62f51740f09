-- What is left to show of `bars_of`.
use Rattle.std.proofs.Common.{◌≡◌, ◌∙◌, [], get_or, map, take, sym, ap, subst}
use Rattle.std.specs.Option.{option_map}
use Rattle.std.specs.Prelude.{filter_map}
use Rattle.std.proofs.lemmas.List.{map_more}
use Rattle.expanding.specs.Bars.{seen_bar, seen_command, bar_of}
use Rattle.expanding.specs.declared.commands.Command.{Command as CodeCommand}
use Rattle.expanding.proofs.Gathered.{gathered_some, gathered_none, no_view}
use Rattle.expanding.proofs.bars.bars_of.Goals as goal
use Rattle.expanding.proofs.bars.bars_of.Goals.{in-Some+in_ok-push, in_default}

pub loop-command-preserved : goal.loop-command-preserved
loop-command-preserved g c = λ asked cs said.
    let s = g.D.Declared.scope c.args.declared.now in
    let commands = c.args.commands.now in
    let i = c.loop-command.command-index in
    let d : CodeCommand = record { script = 0; words = record { ref_ptr = (0, 0); now = [] } } in
    let f = bar_of s asked cs in
    let front = map seen_command (take i commands) in
    let x = seen_command (get_or commands i d) in
    let more = map_more seen_command commands i d c.loop-command-test.true in
    let so_far = c.loop-command.invariant asked cs said in
    let is = c.bar_of.ensures asked cs said in
    elim c.match-bar_of.branch [
      | in-Some+in_ok-push w ↦
          ap (λ v. map seen_bar v.items) w.bars-is
          ∙ (ap (map seen_bar) w.in_ok-push.ensures.items
          ∙ (gathered_some seen_bar f front x c.loop-command.bars.items _ so_far
          (subst (λ o. o ≡ f x) (ap (λ r. option_map seen_bar r) w.in-Some.is) is)
          ∙ ap (filter_map f) (sym more)))
      | in_default w ↦
          ap (λ v. map seen_bar v.items) w.bars-is
          ∙ (gathered_none seen_bar f front x c.loop-command.bars.items so_far (no_view seen_bar c.bar_of.result w.in_default.not-Some ∙ is)
          ∙ ap (filter_map f) (sym more))
    ]
