-- What is left to show of `all_keep_places`.
use Rattle.std.proofs.Common.{◌≡◌, take, subst, refl, List, arith, rules}
use Rattle.std.specs.Prelude.{All}
use Rattle.std.proofs.lemmas.List.{take_all}
use Rattle.std.proofs.lemmas.List.Elements.{All-more}
use Rattle.library.specs.declared.command.Command.{Command}
use Rattle.sourceediting.specs.Following.{KeepsPlaces}
use Rattle.sourceediting.proofs.commands.all_keep_places.Goals as goal

pub loop-command-preserved : goal.loop-command-preserved
loop-command-preserved c =
    let x = c.command-item.result in
    let keeps : KeepsPlaces x = search rules in
    All-more KeepsPlaces c.args.commands.now c.loop-command.command-index x c.loop-command-test.true c.loop-command.invariant
    (subst KeepsPlaces c.command-item.is keeps)

pub returns : goal.returns
returns c =
    let xs = c.args.commands.now in
    let k = c.loop-command.command-index in
    let all : take k xs ≡ xs = take_all k xs (omega arith) in
    (λ _. subst (λ (ys : List Command). All KeepsPlaces ys) all c.loop-command.invariant, λ _. refl)
