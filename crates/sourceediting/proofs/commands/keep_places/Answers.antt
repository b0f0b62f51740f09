-- What is left to show of `keep_places`.
use Rattle.std.proofs.Common.{◌≡◌, ◌∙◌, take, subst, sym, refl, List, arith}
use Rattle.std.specs.Prelude.{All}
use Rattle.std.proofs.lemmas.List.{take_all}
use Rattle.library.specs.declared.command.Command.{Command}
use Rattle.library.specs.declared.history.Entry.{Entry}
use Rattle.sourceediting.specs.Following.{KeepsPlaces, commands_of, all_commands}
use Rattle.sourceediting.proofs.Histories.{entry_keeps}
use Rattle.sourceediting.proofs.commands.keep_places.Goals as goal

pub returns-in-loop-entry : goal.returns-in-loop-entry
returns-in-loop-entry c =
    let e = c.entry-item.result in
    let commands = c.in-Done.commands in
    let each : All KeepsPlaces (all_commands c.args.entries.now) → All KeepsPlaces commands =
    λ all. subst (λ (x : Entry). All KeepsPlaces (commands_of x)) c.in-Done.is
    (entry_keeps c.args.entries.now c.loop-entry.entry-index e c.loop-entry-test.true c.entry-item.is all) in (
      λ h. absurd cc,
      λ all.
          sym c.if-not-all_keep_places.true
          ∙ c.all_keep_places.ensures.1 (subst (λ (cs : List Command). All KeepsPlaces cs) (sym c.as_slice.ensures) (each all)),
    )

pub returns : goal.returns
returns c =
    let es = c.args.entries.now in
    let k = c.loop-entry.entry-index in
    let all : take k es ≡ es = take_all k es (omega arith) in
    (λ _. subst (λ (xs : List Entry). All KeepsPlaces (all_commands xs)) all c.loop-entry.invariant, λ _. refl)
