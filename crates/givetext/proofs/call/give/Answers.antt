-- What is left to show of `give`.
use Rattle.std.proofs.Common.{refl, rules}
use Rattle.std.specs.Prelude.{◌≢◌}
use Rattle.std.proofs.lemmas.Result.{IfOk-weaker, IfErr-weaker, err_from_is_err_and}
use Rattle.givetext.specs.Parts.{IsEdited, IsStopped}
use Rattle.givetext.specs.Causes.{IsRefused}
use Rattle.givetext.specs.declared.refusal.Refusal.{Refusal}
use Rattle.givetext.specs.declared.refusal.Refusal.TheVariants.{NoMemory}
use Rattle.givetext.proofs.Stopped.{replay_refused, stopped_refused, taking_refused}
use Rattle.givetext.specs.Given.{IsGiven}
use Rattle.givetext.proofs.Looked.{given_by}
use Rattle.givetext.proofs.call.give.Goals as goal

pub take_old-requires-sync-typeof-rt : goal.take_old-requires-sync-typeof-rt
take_old-requires-sync-typeof-rt g c κs within =
    let d = c.in_ok-old.ensures.declares in
    (search rules, ((refl, tt), c.sources_are_whole.ensures d.statements c.in_ok-old.old.stand.scope d.declared))

pub returns-clause-given : goal.returns-clause-given
returns-clause-given g c =
    let source = c.args.source.now in
    let library = c.args.library.now in
    let history = c.args.history.now in
    let old = c.in_ok-old.old.stand.scope in
    let taken = c.in_ok-taken.taken in
    let was = c.in_ok-taken.ensures.taken in
    let choice = was.taken.taken.choice in
    let entries = c.in_ok-replayed.replayed.entries in
    let edited = c.in_ok-replayed.replayed.edited in
    IfOk-weaker c.give_edits.result (λ out. IsEdited source old choice taken entries edited out.items)
    (λ out. IsGiven source library history out.items)
    (λ out. given_by source library history out.items old taken entries edited c.in_ok-old.ensures.declares was
    c.in_ok-replayed.ensures.leads)
    (c.give_edits.ensures.edited choice was.taken.chosen_are)

pub returns-in_err-taken-clause-refused : goal.returns-in_err-taken-clause-refused
returns-in_err-taken-clause-refused g c =
    let p = err_from_is_err_and c.from_residual-in_err-taken.result c.from_residual-in_err-taken.ensures.1 in
    rw (p.1, p.2) (taking_refused c.args.source.now c.args.library.now c.args.history.now c.in_ok-old.old.stand.scope
    c.in_ok-old.ensures.declares c.in_err-taken.field-0.0 c.in_err-taken.ensures.refused)

pub returns-in_err-replayed-clause-refused : goal.returns-in_err-replayed-clause-refused
returns-in_err-replayed-clause-refused g c =
    let p = err_from_is_err_and c.from_residual-in_err-replayed.result c.from_residual-in_err-replayed.ensures.1 in
    rw (p.1, p.2) (replay_refused c.args.source.now c.args.library.now c.args.history.now c.in_ok-old.old.stand.scope
    c.in_ok-old.ensures.declares c.in_ok-taken.taken c.in_ok-taken.ensures.taken c.in_err-replayed.field-0.0
    c.in_err-replayed.ensures.refused)

pub returns-clause-refused : goal.returns-clause-refused
returns-clause-refused g c =
    let source = c.args.source.now in
    let library = c.args.library.now in
    let history = c.args.history.now in
    let old = c.in_ok-old.old.stand.scope in
    let taken = c.in_ok-taken.taken in
    let was = c.in_ok-taken.ensures.taken in
    let entries = c.in_ok-replayed.replayed.entries in
    let edited = c.in_ok-replayed.replayed.edited in
    IfErr-weaker c.give_edits.result
    (λ (why : Refusal). why ≢ NoMemory → IsStopped source old was.taken.taken.choice taken entries edited why)
    (IsRefused source library history)
    (stopped_refused source library history old c.in_ok-old.ensures.declares taken was entries edited c.in_ok-replayed.ensures.leads)
    (c.give_edits.ensures.refused was.taken.taken.choice was.taken.chosen_are)
