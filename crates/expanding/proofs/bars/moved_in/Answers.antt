-- What is left to show of `moved_in`.
use Rattle.std.proofs.Common.{◌≡◌, ◌∙◌, ℕ, List, [], Bor, get_or, map, take, sym, ap, subst}
use Rattle.std.specs.Option.{option_map}
use Rattle.std.specs.Prelude.{filter_map}
use Rattle.std.proofs.lemmas.List.{map_more}
use Rattle.mmtext.specs.Words.{Word}
use Rattle.expanding.specs.Bars.{seen_command, moved_by}
use Rattle.expanding.specs.Commands.{Command}
use Rattle.expanding.specs.declared.commands.Command.{Command as CodeCommand}
use Rattle.expanding.proofs.Gathered.{gathered_some, gathered_none, no_view}
use Rattle.expanding.proofs.bars.moved_in.Goals as goal
use Rattle.expanding.proofs.bars.moved_in.Goals.{in-Some+in_ok-push, in_default}

pub loop-command-preserved : goal.loop-command-preserved
loop-command-preserved c =
    let commands = c.args.commands.now in
    let i = c.loop-command.command-index in
    let d : CodeCommand = record { script = 0; words = record { ref_ptr = (0, 0); now = [] } } in
    let view : Bor (List ℕ) × Bor (List ℕ) → Word × Word = λ p. (p.0.now, p.1.now) in
    let f : Command → _ = λ c. moved_by c.words in
    let front = map seen_command (take i commands) in
    let x = seen_command (get_or commands i d) in
    let more = map_more seen_command commands i d c.loop-command-test.true in
    let is = c.moved_by.ensures in
    elim c.match-moved_by.branch [
      | in-Some+in_ok-push w ↦
          ap (λ v. map view v.items) w.pairs-is
          ∙ (ap (map view) w.in_ok-push.ensures.items
          ∙ (gathered_some view f front x c.loop-command.pairs.items _ c.loop-command.invariant
          (subst (λ o. o ≡ f x) (ap (λ r. option_map view r) w.in-Some.is) is)
          ∙ ap (filter_map f) (sym more)))
      | in_default w ↦
          ap (λ v. map view v.items) w.pairs-is
          ∙ (gathered_none view f front x c.loop-command.pairs.items c.loop-command.invariant
          (no_view view c.moved_by.result w.in_default.not-Some ∙ is)
          ∙ ap (filter_map f) (sym more))
    ]
