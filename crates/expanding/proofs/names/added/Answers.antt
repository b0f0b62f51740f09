-- What is left to show of `added`.
use Rattle.std.proofs.Common.{◌≡◌, ◌∙◌, ℕ, List, [], Bor, get_or, map, take, sym, ap, subst}
use Rattle.std.specs.Option.{option_map}
use Rattle.std.specs.Prelude.{filter_map}
use Rattle.std.proofs.lemmas.List.{map_more}
use Rattle.expanding.specs.Bars.{seen_command}
use Rattle.expanding.specs.Discouraged.{added_by}
use Rattle.expanding.specs.Commands.{Command}
use Rattle.expanding.specs.declared.commands.Command.{Command as CodeCommand}
use Rattle.expanding.proofs.Gathered.{gathered_some, gathered_none, no_view}
use Rattle.expanding.proofs.names.added.Goals as goal
use Rattle.expanding.proofs.names.added.Goals.{in-Some+in_ok-push, in_default}

pub loop-command-preserved : goal.loop-command-preserved
loop-command-preserved c =
    let commands = c.args.commands.now in
    let i = c.loop-command.command-index in
    let d : CodeCommand = record { script = 0; words = record { ref_ptr = (0, 0); now = [] } } in
    let view : Bor (List ℕ) → List ℕ = λ v. v.now in
    let f : Command → _ = λ c. added_by c.words in
    let front = map seen_command (take i commands) in
    let x = seen_command (get_or commands i d) in
    let more = map_more seen_command commands i d c.loop-command-test.true in
    let is = c.added_by.ensures in
    elim c.match-added_by.branch [
      | in-Some+in_ok-push w ↦
          ap (λ v. map view v.items) w.labels-is
          ∙ (ap (map view) w.in_ok-push.ensures.items
          ∙ (gathered_some view f front x c.loop-command.labels.items _ c.loop-command.invariant
          (subst (λ o. o ≡ f x) (ap (λ r. option_map view r) w.in-Some.is) is)
          ∙ ap (filter_map f) (sym more)))
      | in_default w ↦
          ap (λ v. map view v.items) w.labels-is
          ∙ (gathered_none view f front x c.loop-command.labels.items c.loop-command.invariant
          (no_view view c.added_by.result w.in_default.not-Some ∙ is)
          ∙ ap (filter_map f) (sym more))
    ]
