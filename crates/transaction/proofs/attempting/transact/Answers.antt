use Rattle.std.proofs.Common.{◌≡◌, Bool, true, false, List, Result, Ok, Err, refl, sym, ap, subst, ◌∙◌, arith}
use Rattle.std.specs.Result.{OnOk, is_ok}
use Rattle.std.specs.Option.{is_some}
use Rattle.library.specs.declared.command.Command.{Command}
use Rattle.library.specs.Transactions.{has_edit}
use Rattle.cells.specs.declared.ending.RunError.{RunError}
use Rattle.cells.specs.Answers.{has_staging, DoesAll, RunAnswers}
use Rattle.cells.proofs.Sights.{onward_refl, may_stage_kept, may_write_kept, origin_kept}
use Rattle.commands.proofs.Allowed.{may_do_all}
use Rattle.lending.specs.Lent.{Pass, Lends, is_writing, lent_sight}
use Rattle.transaction.specs.Tries.{Tries, EndsWithin}
use Rattle.transaction.proofs.Applying.{may_be_done, may_be_refused, none_asked, asks_within, keeps_within, stored}
use Rattle.transaction.proofs.attempting.transact.Goals as goal

pub run-requires-clause-may : goal.run-requires-clause-may
run-requires-clause-may c =
    let cs = c.as_slice-3.result.now in
    let edits : has_edit cs ≡ c.has_edit-edits.result =
    ap has_edit (c.as_slice-3.ensures ∙ sym c.as_slice.ensures) ∙ sym c.has_edit-edits.ensures in
    may_do_all (lent_sight c.begin-live.result.run) cs
    (λ is. ap is_writing c.begin-live.ensures.mode_is ∙ (c.mode_of-mode.ensures.writes ∙ (sym edits ∙ is)))
    (λ is. c.begin-live.ensures.may ∙ (c.has_staging-may_stage.ensures
    ∙ (ap has_staging (c.as_slice-2.ensures ∙ sym c.as_slice-3.ensures) ∙ is)))

pub commit-requires-clause-lawful : goal.commit-requires-clause-lawful
commit-requires-clause-lawful c =
    let g = c.args.library.now.given in
    let old = c.begin-live.result.run in
    let new = c.run.new.cells.run in
    let cs = c.args.commands.now in
    let lends = subst (λ (b : Bool). Lends g c.args.kit c.mode_of-mode.result b old) (c.has_staging-may_stage.ensures
    ∙ ap has_staging c.as_slice-2.ensures)
    c.begin-live.ensures in
    may_be_done g c.args.kit c.mode_of-mode.result cs old lends new c.run.ensures.onward c.requires.fit c.in-Ok.replies
    (subst (λ (x : List Command). DoesAll (lent_sight old) (lent_sight new) x c.in-Ok.replies) c.as_slice-3.ensures c.in-Ok.ensures.answers)

pub answer-requires-clause-lawful : goal.answer-requires-clause-lawful
answer-requires-clause-lawful c =
    let g = c.args.library.now.given in
    let old = c.begin-live.result.run in
    let new = c.run.new.cells.run in
    let cs = c.args.commands.now in
    let lends = subst (λ (b : Bool). Lends g c.args.kit c.mode_of-mode.result b old) (c.has_staging-may_stage.ensures
    ∙ ap has_staging c.as_slice-2.ensures)
    c.begin-live.ensures in
    may_be_done g c.args.kit c.mode_of-mode.result cs old lends new c.run.ensures.onward c.requires.fit c.in-Ok.replies
    (subst (λ (x : List Command). DoesAll (lent_sight old) (lent_sight new) x c.in-Ok.replies) c.as_slice-3.ensures c.in-Ok.ensures.answers)

pub refuse-requires-clause-lawful : goal.refuse-requires-clause-lawful
refuse-requires-clause-lawful c = λ commands reason is why.
    let g = c.args.library.now.given in
    let old = c.begin-live.result.run in
    let new = c.run.new.cells.run in
    let cs = c.args.commands.now in
    let lends = subst (λ (b : Bool). Lends g c.args.kit c.mode_of-mode.result b old) (c.has_staging-may_stage.ensures
    ∙ ap has_staging c.as_slice-2.ensures)
    c.begin-live.ensures in
    let answers = subst (λ (x : List Command). RunAnswers (lent_sight old) (lent_sight new) x (Err c.in-Err-Refused.field-0))
    c.as_slice-3.ensures c.in-Err-Refused.ensures.answers in
    may_be_refused g c.args.kit c.mode_of-mode.result cs old lends new c.run.ensures.onward c.requires.fit c.in-Err-Refused.refused
    (subst (λ (e : RunError). RunAnswers (lent_sight old) (lent_sight new) cs (Err e)) c.in-Err-Refused.field-0-is answers)
    commands reason is (why ∙ c.in-Err-Refused.refused-is)

pub returns-in-Ok-clause-stored : goal.returns-in-Ok-clause-stored
returns-in-Ok-clause-stored c =
    stored _ c.args.kit _ _ c.begin-live.result.run c.run.new.cells.run c.begin-live.ensures c.run.ensures.onward c.args.commands.now _
    c.as_slice-3.ensures c.commit.result.kit c.run.new.cells.agrees c.run.ensures.taken c.commit.result.outcome c.commit.ensures.stored

pub returns-in-Ok-2-clause-stored : goal.returns-in-Ok-2-clause-stored
returns-in-Ok-2-clause-stored c =
    stored _ c.args.kit _ _ c.begin-live.result.run c.run.new.cells.run c.begin-live.ensures c.run.ensures.onward c.args.commands.now _
    c.as_slice-3.ensures c.answer.result.kit c.run.new.cells.agrees c.run.ensures.taken c.answer.result.outcome c.answer.ensures.stored

pub returns-in-Err-Refused-clause-stored : goal.returns-in-Err-Refused-clause-stored
returns-in-Err-Refused-clause-stored c =
    stored _ c.args.kit _ _ c.begin-live.result.run c.run.new.cells.run c.begin-live.ensures c.run.ensures.onward c.args.commands.now _
    c.as_slice-3.ensures c.refuse.result.kit c.run.new.cells.agrees c.run.ensures.taken c.refuse.result.outcome c.refuse.ensures.stored

pub returns-in-Err-clause-stored : goal.returns-in-Err-clause-stored
returns-in-Err-clause-stored c =
    stored _ c.args.kit _ _ c.begin-live.result.run c.run.new.cells.run c.begin-live.ensures c.run.ensures.onward c.args.commands.now _
    c.as_slice-3.ensures c.stop-in-Err.result.kit c.run.new.cells.agrees c.run.ensures.taken c.stop-in-Err.result.outcome
    c.stop-in-Err.ensures.stored

pub returns-then-is_err-clause-stored : goal.returns-then-is_err-clause-stored
returns-then-is_err-clause-stored c =
    let l = c.begin-live.result.run in
    stored _ c.args.kit _ _ l l c.begin-live.ensures (onward_refl (lent_sight l)) c.args.commands.now _ refl c.stop.result.kit
    c.begin-live.result.agrees (λ st lib m v. omega arith) c.stop.result.outcome c.stop.ensures.stored

pub commit-requires-clause-asks : goal.commit-requires-clause-asks
commit-requires-clause-asks c =
    let lends = c.begin-live.ensures in
    asks_within c.args.library.now.given c.args.kit _ _ c.begin-live.result.run lends c.args.commands.now c.run.new.cells.run
    c.run.ensures.onward _
    c.as_slice-3.ensures c.requires.fit c.run.ensures.reads

pub commit-requires-clause-keeps : goal.commit-requires-clause-keeps
commit-requires-clause-keeps c =
    keeps_within c.args.library.now.given c.args.kit _ _ c.begin-live.result.run c.begin-live.ensures c.args.commands.now
    c.run.new.cells.run
    c.run.ensures.onward _ c.as_slice-3.ensures c.requires.fit c.in-Ok.ensures.keeps

pub answer-requires-clause-asks : goal.answer-requires-clause-asks
answer-requires-clause-asks c =
    let lends = c.begin-live.ensures in
    asks_within c.args.library.now.given c.args.kit _ _ c.begin-live.result.run lends c.args.commands.now c.run.new.cells.run
    c.run.ensures.onward _
    c.as_slice-3.ensures c.requires.fit c.run.ensures.reads

pub refuse-requires-clause-asks : goal.refuse-requires-clause-asks
refuse-requires-clause-asks c =
    let lends = c.begin-live.ensures in
    asks_within c.args.library.now.given c.args.kit _ _ c.begin-live.result.run lends c.args.commands.now c.run.new.cells.run
    c.run.ensures.onward _
    c.as_slice-3.ensures c.requires.fit c.run.ensures.reads

pub stop-requires-clause-asks : goal.stop-requires-clause-asks
stop-requires-clause-asks c =
    none_asked c.args.library.now.given c.args.kit _ _ c.begin-live.result.run c.begin-live.ensures c.args.commands.now

pub stop-requires-in-Err-clause-asks : goal.stop-requires-in-Err-clause-asks
stop-requires-in-Err-clause-asks c =
    asks_within c.args.library.now.given c.args.kit _ _ c.begin-live.result.run c.begin-live.ensures c.args.commands.now c.run.new.cells.run
    c.run.ensures.onward _ c.as_slice-3.ensures c.requires.fit c.run.ensures.reads

pub returns-in-Ok-clause-within : goal.returns-in-Ok-clause-within
returns-in-Ok-clause-within c =
    subst (λ (z : Pass). EndsWithin z c.args.commands.now c.commit.result.kit.pass c.commit.result.outcome)
    (origin_kept c.run.ensures.onward ∙ c.begin-live.ensures.began) c.commit.ensures.within

pub returns-in-Ok-2-clause-within : goal.returns-in-Ok-2-clause-within
returns-in-Ok-2-clause-within c =
    subst (λ (z : Pass). EndsWithin z c.args.commands.now c.answer.result.kit.pass c.answer.result.outcome)
    (origin_kept c.run.ensures.onward ∙ c.begin-live.ensures.began) c.answer.ensures.within

pub returns-in-Err-Refused-clause-within : goal.returns-in-Err-Refused-clause-within
returns-in-Err-Refused-clause-within c =
    subst (λ (z : Pass). EndsWithin z c.args.commands.now c.refuse.result.kit.pass c.refuse.result.outcome)
    (origin_kept c.run.ensures.onward ∙ c.begin-live.ensures.began) c.refuse.ensures.within

pub returns-in-Err-clause-within : goal.returns-in-Err-clause-within
returns-in-Err-clause-within c =
    subst (λ (z : Pass). EndsWithin z c.args.commands.now c.stop-in-Err.result.kit.pass c.stop-in-Err.result.outcome)
    (origin_kept c.run.ensures.onward ∙ c.begin-live.ensures.began) c.stop-in-Err.ensures.within

pub returns-then-is_err-clause-within : goal.returns-then-is_err-clause-within
returns-then-is_err-clause-within c =
    subst (λ (z : Pass). EndsWithin z c.args.commands.now c.stop.result.kit.pass c.stop.result.outcome) c.begin-live.ensures.began
    c.stop.ensures.within

pub returns-in-Ok-clause-tries : goal.returns-in-Ok-clause-tries
returns-in-Ok-clause-tries c =
    let made = c.commit.result in
    subst (λ (z : Pass). Tries c.args.commands.now z made.kit.pass made.outcome made.drawn)
    (origin_kept c.run.ensures.onward ∙ c.begin-live.ensures.began) c.commit.ensures.tries

pub returns-in-Ok-2-clause-tries : goal.returns-in-Ok-2-clause-tries
returns-in-Ok-2-clause-tries c =
    let made = c.answer.result in
    subst (λ (z : Pass). Tries c.args.commands.now z made.kit.pass made.outcome made.drawn)
    (origin_kept c.run.ensures.onward ∙ c.begin-live.ensures.began) c.answer.ensures.tries

pub returns-in-Err-Refused-clause-tries : goal.returns-in-Err-Refused-clause-tries
returns-in-Err-Refused-clause-tries c =
    let made = c.refuse.result in
    subst (λ (z : Pass). Tries c.args.commands.now z made.kit.pass made.outcome made.drawn)
    (origin_kept c.run.ensures.onward ∙ c.begin-live.ensures.began) c.refuse.ensures.tries

pub returns-in-Err-clause-tries : goal.returns-in-Err-clause-tries
returns-in-Err-clause-tries c =
    let made = c.stop-in-Err.result in
    subst (λ (z : Pass). Tries c.args.commands.now z made.kit.pass made.outcome made.drawn)
    (origin_kept c.run.ensures.onward ∙ c.begin-live.ensures.began) c.stop-in-Err.ensures.tries

pub returns-then-is_err-clause-tries : goal.returns-then-is_err-clause-tries
returns-then-is_err-clause-tries c =
    let made = c.stop.result in
    subst (λ (z : Pass). Tries c.args.commands.now z made.kit.pass made.outcome made.drawn) c.begin-live.ensures.began c.stop.ensures.tries

pub stop-requires-clause-stages : goal.stop-requires-clause-stages
stop-requires-clause-stages c = c.begin-live.ensures.may ∙ (c.has_staging-may_stage.ensures ∙ ap has_staging c.as_slice-2.ensures)

pub commit-requires-clause-stages : goal.commit-requires-clause-stages
commit-requires-clause-stages c =
    (may_stage_kept c.run.ensures.onward)
    ∙ (c.begin-live.ensures.may ∙ (c.has_staging-may_stage.ensures ∙ ap has_staging c.as_slice-2.ensures))

pub stop-requires-in-Err-clause-stages : goal.stop-requires-in-Err-clause-stages
stop-requires-in-Err-clause-stages c =
    (may_stage_kept c.run.ensures.onward)
    ∙ (c.begin-live.ensures.may ∙ (c.has_staging-may_stage.ensures ∙ ap has_staging c.as_slice-2.ensures))

pub stop-requires-clause-writes : goal.stop-requires-clause-writes
stop-requires-clause-writes c =
    ap is_writing c.begin-live.ensures.mode_is
    ∙ (c.mode_of-mode.ensures.writes ∙ (c.has_edit-edits.ensures ∙ ap has_edit c.as_slice.ensures))

pub commit-requires-clause-writes : goal.commit-requires-clause-writes
commit-requires-clause-writes c =
    (may_write_kept c.run.ensures.onward)
    ∙ (ap is_writing c.begin-live.ensures.mode_is
    ∙ (c.mode_of-mode.ensures.writes ∙ (c.has_edit-edits.ensures ∙ ap has_edit c.as_slice.ensures)))

pub refuse-requires-clause-writes : goal.refuse-requires-clause-writes
refuse-requires-clause-writes c =
    (may_write_kept c.run.ensures.onward)
    ∙ (ap is_writing c.begin-live.ensures.mode_is
    ∙ (c.mode_of-mode.ensures.writes ∙ (c.has_edit-edits.ensures ∙ ap has_edit c.as_slice.ensures)))

pub stop-requires-in-Err-clause-writes : goal.stop-requires-in-Err-clause-writes
stop-requires-in-Err-clause-writes c =
    (may_write_kept c.run.ensures.onward)
    ∙ (ap is_writing c.begin-live.ensures.mode_is
    ∙ (c.mode_of-mode.ensures.writes ∙ (c.has_edit-edits.ensures ∙ ap has_edit c.as_slice.ensures)))

-- ---- memory was had for one record more

had : {A E : Type 0} (P : Type 0) (r : Result A E) → is_ok r ≡ true → OnOk r P → P
had P (Ok x) ok h = h
had P (Err e) ok h = absurd cc

pub returns-in-Ok-clause-room : goal.returns-in-Ok-clause-room
returns-in-Ok-clause-room c = λ drawn.
    let room = had _ c.reserve.result c.if-is_err.ensures.negation c.reserve.ensures.ok in omega (arith, room)

pub returns-in-Ok-2-clause-room : goal.returns-in-Ok-2-clause-room
returns-in-Ok-2-clause-room c = λ drawn.
    let room = had _ c.reserve.result c.if-is_err.ensures.negation c.reserve.ensures.ok in omega (arith, room)

pub returns-in-Err-Refused-clause-room : goal.returns-in-Err-Refused-clause-room
returns-in-Err-Refused-clause-room c = λ drawn.
    let room = had _ c.reserve.result c.if-is_err.ensures.negation c.reserve.ensures.ok in omega (arith, room)

pub returns-in-Err-clause-room : goal.returns-in-Err-clause-room
returns-in-Err-clause-room c = λ drawn.
    let room = had _ c.reserve.result c.if-is_err.ensures.negation c.reserve.ensures.ok in omega (arith, room)

pub returns-then-is_err-clause-room : goal.returns-then-is_err-clause-room
returns-then-is_err-clause-room c = λ drawn. let no : true ≡ false = sym drawn ∙ ap is_some c.stop.ensures.undrawn in absurd cc
