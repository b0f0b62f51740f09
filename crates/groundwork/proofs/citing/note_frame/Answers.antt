use Rattle.std.proofs.Common.{◌≡◌, ◌≢◌, ◌∙◌, List, ℕ, Some, sym, subst}
use Rattle.groundwork.specs.Citing.{frames_in}
use Rattle.groundwork.proofs.NotedFrames.{notes_none, notes_one}
use Rattle.groundwork.proofs.ByteKeys.{found_elsewhere}
use Rattle.std.proofs.lemmas.Result.{IfOk-from_err}
use Rattle.groundwork.proofs.citing.note_frame.Goals as goal

pub returns-then-contains_key-clause-ok : goal.returns-then-contains_key-clause-ok
returns-then-contains_key-clause-ok g c =
    notes_none (g.C.Cells.sight c.args.cells.now) c.args.prelude.now c.args.slot c.args.label.now (frames_in c.args.by_label.now)
    (sym c.contains_key.ensures ∙ c.if-contains_key.true)

pub returns-clause-ok : goal.returns-clause-ok
returns-clause-ok g c =
    let old = c.args.by_label.now in
    let new = c.insert.new.self in
    let f = c.in_ok-frame.field-0 in
    let updates = c.in_ok-insert.ensures.updates in
    let key : c.in_ok-key.key.items ≡ c.args.label.now = c.in_ok-key.ensures.items in
    notes_one (g.C.Cells.sight c.frame.new.cells) c.args.prelude.now c.args.slot c.args.label.now (frames_in c.args.by_label.now)
    (frames_in c.insert.new.self) f
    (sym c.contains_key.ensures ∙ c.if-contains_key.false)
    (subst (λ (l : List ℕ). frames_in c.insert.new.self l ≡ Some c.in_ok-frame.field-0) key updates.1)
    (subst (λ (l : List ℕ). (other : List ℕ) → other ≢ l → frames_in c.insert.new.self other ≡ frames_in c.args.by_label.now other) key
    (found_elsewhere c.in_ok-key.key.items old new (Some f) updates))
    c.in_ok-frame.ensures.ok

pub returns-in_err-frame-clause-reads : goal.returns-in_err-frame-clause-reads
returns-in_err-frame-clause-reads g c = c.frame.ensures.reads

pub returns-in_err-insert-clause-reads : goal.returns-in_err-insert-clause-reads
returns-in_err-insert-clause-reads g c = c.frame.ensures.reads

pub returns-clause-reads : goal.returns-clause-reads
returns-clause-reads g c = c.frame.ensures.reads

pub returns-in_err-key-clause-ok : goal.returns-in_err-key-clause-ok
returns-in_err-key-clause-ok g c = IfOk-from_err _ _ c.from_residual.ensures.0

pub returns-in_err-frame-clause-ok : goal.returns-in_err-frame-clause-ok
returns-in_err-frame-clause-ok g c = IfOk-from_err _ _ c.from_residual-in_err-frame.ensures.0

pub returns-in_err-insert-clause-ok : goal.returns-in_err-insert-clause-ok
returns-in_err-insert-clause-ok g c = IfOk-from_err _ _ c.from_residual-in_err-insert.ensures.0
