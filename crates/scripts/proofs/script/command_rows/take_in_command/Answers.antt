-- What is left to show of `take_in_command`.
use Rattle.std.proofs.Common.{List, sym, subst}
use Rattle.mmtext.specs.Views.{seen}
use Rattle.mmsyntax.specs.declared.statement.Step.{Step}
use Rattle.mmsyntax.specs.declared.statement.Assertion.{Assertion}
use Rattle.library.specs.declared.command.Command.TheVariants as command
use Rattle.statementreader.specs.UnitReadings.{position_of, UnitReading}
use Rattle.scripts.specs.declared.script.place.CommandPlace.{CommandPlace}
use Rattle.scripts.specs.ScriptFaults.{in_proof, in_unit}
use Rattle.scripts.specs.ScriptViews.{seen_command_place, TakesInCommand}
use Rattle.scripts.proofs.ScriptRows.{step_taken, unit_taken}
use Rattle.scripts.proofs.script.command_rows.take_in_command.Goals as goal

pub returns-in-InProof-clause-taken : goal.returns-in-InProof-clause-taken
returns-in-InProof-clause-taken c =
    let t = c.args.prelude.now in
    let u = seen c.args.token in
    let label = c.in-InProof.label in
    let old = c.in-InProof.steps in
    let new = c.take_step.new.steps in
    let made = λ (steps : List Step). command.Reprove label steps in
    subst (λ (x : CommandPlace). TakesInCommand t (seen_command_place t x) u (in_proof label made new) c.take_step.result)
    (sym c.in-InProof.is) (step_taken t label c.as_slice.result.now made old new u c.take_step.result c.as_slice.ensures
    c.take_step.ensures.taken)

pub returns-in-InUnit-clause-taken : goal.returns-in-InUnit-clause-taken
returns-in-InUnit-clause-taken c =
    let t = c.args.prelude.now in
    let u = seen c.args.token in
    let old = c.deref_mut.result.now in
    let new = c.take_word.new.self in
    let made = λ (a : Assertion). command.Add c.in-InUnit.field-0 a in
    subst (λ (x : CommandPlace). TakesInCommand t (seen_command_place t x) u (in_unit made (position_of t new)) c.take_word.result)
    (sym c.in-InUnit.is)
    (subst (λ (r : UnitReading). TakesInCommand t (in_unit made (position_of t r)) u (in_unit made (position_of t new)) c.take_word.result)
    c.deref_mut.ensures.value (unit_taken t made old new u c.take_word.result c.take_word.ensures.taken))
