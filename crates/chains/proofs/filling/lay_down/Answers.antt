-- What is left to show of `lay_down`.
use Rattle.std.proofs.Common.{◌≡◌, ◌<◌, ◌*◌, ◌+◌, ℕ, ap, ◌∙◌, refl, arith}
use Rattle.bodystore.specs.Bodies.{statement_of, statement_body}
use Rattle.cells.specs.Slots.{name_cell}
use Rattle.cells.specs.State.{State, with_value}
use Rattle.cells.specs.Sight.{Sight, WasWritten, Matches, ReadsWithin, after}
use Rattle.cells.specs.Aside.{KeepsAside, IsOfSlot}
use Rattle.cells.proofs.Keeping.{keeps_same, keeps_trans, keeps_wider}
use Rattle.cells.proofs.Asking.{nothing_same, asks_nothing, asks_cell, asks_trans}
use Rattle.chains.specs.Filling.{LaysDown}
use Rattle.cells.proofs.Sights.{onward_trans, matches_back}
use Rattle.std.proofs.lemmas.Result.{MatchResult-weaker}
use Rattle.chains.proofs.Laying.{laid_down}
use Rattle.cells.proofs.Settings.{small_slot}
use Rattle.std.proofs.lemmas.Result.{IfOk-from_err}
use Rattle.chains.proofs.filling.lay_down.Goals as goal

pub rank_cell-requires : goal.rank_cell-requires
rank_cell-requires g c = small_slot _ (g.met.C.Cells.grounded c.args.cells.now) c.args.slot c.requires.slot

pub citers_cell-requires : goal.citers_cell-requires
citers_cell-requires g c = small_slot _ (g.met.C.Cells.grounded c.args.cells.now) c.args.slot c.requires.slot

pub returns-in_err-put_statement-clause-onward : goal.returns-in_err-put_statement-clause-onward
returns-in_err-put_statement-clause-onward g c = onward_trans _ _ _ c.put_label.ensures.onward c.put_statement.ensures.onward

pub returns-in_err-put_proof-clause-onward : goal.returns-in_err-put_proof-clause-onward
returns-in_err-put_proof-clause-onward g c =
    onward_trans _ _ _ c.put_label.ensures.onward (onward_trans _ _ _ c.put_statement.ensures.onward c.put_proof.ensures.onward)

pub returns-in_err-put-clause-onward : goal.returns-in_err-put-clause-onward
returns-in_err-put-clause-onward g c =
    onward_trans _ _ _ c.put_label.ensures.onward (onward_trans _ _ _ c.put_statement.ensures.onward
    (onward_trans _ _ _ c.put_proof.ensures.onward c.put.ensures.onward))

pub returns-clause-onward : goal.returns-clause-onward
returns-clause-onward g c =
    onward_trans _ _ _ c.put_label.ensures.onward (onward_trans _ _ _ c.put_statement.ensures.onward
    (onward_trans _ _ _ c.put_proof.ensures.onward (onward_trans _ _ _ c.put.ensures.onward c.put-2.ensures.onward)))

pub returns-clause-ok : goal.returns-clause-ok
returns-clause-ok g c =
    let old = g.C.Cells.sight c.args.cells.now in
    let s1 = g.C.Cells.sight c.put_label.new.cells in
    let s2 = g.C.Cells.sight c.put_statement.new.cells in
    let s3 = g.C.Cells.sight c.put_proof.new.cells in
    let s4 = g.C.Cells.sight c.put.new.cells in
    let s5 = g.C.Cells.sight c.put-2.new.cells in
    let named = c.in_ok-put_label.ensures in
    let stated = c.in_ok-put_statement.ensures in
    let proven = c.in_ok-put_proof.ensures in
    let ranked = c.in_ok-put.ensures.ok in
    let on3 = onward_trans _ _ _ c.put.ensures.onward c.put-2.ensures.onward in
    let then : (x : Unit {0}) → ((st : State) → after s5 st ≡ with_value c.citers_cell.result 0 (after s4 st)) → (st : State)
    → Matches s5 st
    → LaysDown (after old st) (after s5 st) c.args.slot c.args.rank c.args.assertion.now c.args.steps.now =
    λ x put st m.
    let m3 = matches_back s3 s5 st on3 m in
    let m2 = matches_back s2 s3 st c.put_proof.ensures.onward m3 in
    let m1 = matches_back s1 s2 st c.put_statement.ensures.onward m2 in
    laid_down (after old st) (after s1 st) (after s2 st) (after s3 st)
    (after s5 st) c.args.slot c.args.rank c.args.assertion.now c.args.steps.now
    c.as_slice.result.now (statement_body (statement_of c.args.assertion.now)) refl refl refl
    c.as_slice.ensures (named.ok st m1) (named.others st)
    refl (stated.ok st m2) (stated.others st)
    (proven.ok st m3) (proven.others st)
    (put st ∙ (λ i. with_value (c.citers_cell.ensures i) 0
    ((ranked st ∙ ap (λ (n : ℕ). with_value n c.args.rank (after s3 st)) c.rank_cell.ensures) i))) in
    MatchResult-weaker c.put-2.result c.put-2.ensures.ok then (λ _ t. t)

pub returns-clause-written : goal.returns-clause-written
returns-clause-written g c =
    let s5 = g.C.Cells.sight c.put-2.new.cells in
    let later = onward_trans _ _ _ c.put_statement.ensures.onward (onward_trans _ _ _ c.put_proof.ensures.onward
    (onward_trans _ _ _ c.put.ensures.onward c.put-2.ensures.onward)) in
    let done = later.written (name_cell c.args.slot) c.in_ok-put_label.ensures.written in
    let then : (x : Unit {0}) → WasWritten s5 c.citers_cell.result → WasWritten s5 (name_cell c.args.slot) = λ x w. done in
    MatchResult-weaker c.put-2.result c.put-2.ensures.written then (λ _ t. t)

-- a cell of the slot is kept aside after others of it
one_more : {O : Type 0} → (slot part cell : ℕ) (r s t : Sight O) → cell ≡ 5 * slot + part → part < 5 → KeepsAside (IsOfSlot slot) r s
    → KeepsAside (λ c. c ≡ cell) s t → KeepsAside (IsOfSlot slot) r t
one_more slot part cell r s t is few before last =
    keeps_trans (IsOfSlot slot) r s t before
    (keeps_wider (λ c. c ≡ cell) (IsOfSlot slot) s t (λ c same. (omega (arith, is, same), omega (arith, is, few, same))) last)

pub returns-clause-keeps : goal.returns-clause-keeps
returns-clause-keeps g c =
    let i = c.args.slot in
    let s0 = g.C.Cells.sight c.args.cells.now in
    let s1 = g.C.Cells.sight c.put_label.new.cells in
    let s2 = g.C.Cells.sight c.put_statement.new.cells in
    let s3 = g.C.Cells.sight c.put_proof.new.cells in
    let s4 = g.C.Cells.sight c.put.new.cells in
    let s5 = g.C.Cells.sight c.put-2.new.cells in
    let named = one_more i 0 _ s0 s0 s1 (omega arith) (omega arith)
    (keeps_same (IsOfSlot c.args.slot) s0 s0 refl) c.in_ok-put_label.ensures.keeps in
    let stated = one_more i 1 _ s0 s1 s2 refl (omega arith) named c.in_ok-put_statement.ensures.keeps in
    let proven = one_more i 2 _ s0 s2 s3 refl (omega arith) stated c.in_ok-put_proof.ensures.keeps in
    let ranked = one_more i 3 _ s0 s3 s4 c.rank_cell.ensures (omega arith) proven c.in_ok-put.ensures.keeps in
    MatchResult-weaker c.put-2.result {P' = λ _. KeepsAside (IsOfSlot c.args.slot) s0 s5} c.put-2.ensures.keeps
    (λ _ last. one_more i 4 _ s0 s4 s5 c.citers_cell.ensures (omega arith) ranked last) (λ _ t. t)

-- a cell of the slot is read after others of it
one_read : {O : Type 0} → {cell : ℕ} → {r s t : Sight O} → (slot part : ℕ) → cell ≡ 5 * slot + part → part < 5
    → ReadsWithin (IsOfSlot slot) r s
    → ReadsWithin (λ c. c ≡ cell) s t → ReadsWithin (IsOfSlot slot) r t
one_read slot part is few before last = asks_trans before (asks_cell (omega (arith, is), omega (arith, is, few)) last)

pub returns-in_err-put_label-clause-reads : goal.returns-in_err-put_label-clause-reads
returns-in_err-put_label-clause-reads g c =
    one_read c.args.slot 0 (omega arith) (omega arith) (asks_nothing (nothing_same _)) c.put_label.ensures.reads

pub returns-in_err-put_statement-clause-reads : goal.returns-in_err-put_statement-clause-reads
returns-in_err-put_statement-clause-reads g c =
    one_read c.args.slot 1 refl (omega arith)
    (one_read c.args.slot 0 (omega arith) (omega arith) (asks_nothing (nothing_same _)) c.put_label.ensures.reads)
    c.put_statement.ensures.reads

pub returns-in_err-put_proof-clause-reads : goal.returns-in_err-put_proof-clause-reads
returns-in_err-put_proof-clause-reads g c =
    one_read c.args.slot 2 refl (omega arith)
    (one_read c.args.slot 1 refl (omega arith)
    (one_read c.args.slot 0 (omega arith) (omega arith) (asks_nothing (nothing_same _)) c.put_label.ensures.reads)
    c.put_statement.ensures.reads) c.put_proof.ensures.reads

pub returns-in_err-put-clause-reads : goal.returns-in_err-put-clause-reads
returns-in_err-put-clause-reads g c =
    one_read c.args.slot 3 c.rank_cell.ensures (omega arith)
    (one_read c.args.slot 2 refl (omega arith)
    (one_read c.args.slot 1 refl (omega arith)
    (one_read c.args.slot 0 (omega arith) (omega arith) (asks_nothing (nothing_same _)) c.put_label.ensures.reads)
    c.put_statement.ensures.reads) c.put_proof.ensures.reads)
    c.put.ensures.reads

pub returns-clause-reads : goal.returns-clause-reads
returns-clause-reads g c =
    one_read c.args.slot 4 c.citers_cell.ensures (omega arith)
    (one_read c.args.slot 3 c.rank_cell.ensures (omega arith)
    (one_read c.args.slot 2 refl (omega arith)
    (one_read c.args.slot 1 refl (omega arith)
    (one_read c.args.slot 0 (omega arith) (omega arith) (asks_nothing (nothing_same _)) c.put_label.ensures.reads)
    c.put_statement.ensures.reads) c.put_proof.ensures.reads)
    c.put.ensures.reads) c.put-2.ensures.reads

pub returns-in_err-put_label-clause-ok : goal.returns-in_err-put_label-clause-ok
returns-in_err-put_label-clause-ok g c = IfOk-from_err _ _ c.from_residual.ensures.0

pub returns-in_err-put_label-clause-written : goal.returns-in_err-put_label-clause-written
returns-in_err-put_label-clause-written g c = IfOk-from_err _ _ c.from_residual.ensures.0

pub returns-in_err-put_label-clause-keeps : goal.returns-in_err-put_label-clause-keeps
returns-in_err-put_label-clause-keeps g c = IfOk-from_err _ _ c.from_residual.ensures.0

pub returns-in_err-put_statement-clause-ok : goal.returns-in_err-put_statement-clause-ok
returns-in_err-put_statement-clause-ok g c = IfOk-from_err _ _ c.from_residual-in_err-put_statement.ensures.0

pub returns-in_err-put_statement-clause-written : goal.returns-in_err-put_statement-clause-written
returns-in_err-put_statement-clause-written g c = IfOk-from_err _ _ c.from_residual-in_err-put_statement.ensures.0

pub returns-in_err-put_statement-clause-keeps : goal.returns-in_err-put_statement-clause-keeps
returns-in_err-put_statement-clause-keeps g c = IfOk-from_err _ _ c.from_residual-in_err-put_statement.ensures.0

pub returns-in_err-put_proof-clause-ok : goal.returns-in_err-put_proof-clause-ok
returns-in_err-put_proof-clause-ok g c = IfOk-from_err _ _ c.from_residual-in_err-put_proof.ensures.0

pub returns-in_err-put_proof-clause-written : goal.returns-in_err-put_proof-clause-written
returns-in_err-put_proof-clause-written g c = IfOk-from_err _ _ c.from_residual-in_err-put_proof.ensures.0

pub returns-in_err-put_proof-clause-keeps : goal.returns-in_err-put_proof-clause-keeps
returns-in_err-put_proof-clause-keeps g c = IfOk-from_err _ _ c.from_residual-in_err-put_proof.ensures.0

pub returns-in_err-put-clause-ok : goal.returns-in_err-put-clause-ok
returns-in_err-put-clause-ok g c = IfOk-from_err _ _ c.from_residual-in_err-put.ensures.0

pub returns-in_err-put-clause-written : goal.returns-in_err-put-clause-written
returns-in_err-put-clause-written g c = IfOk-from_err _ _ c.from_residual-in_err-put.ensures.0

pub returns-in_err-put-clause-keeps : goal.returns-in_err-put-clause-keeps
returns-in_err-put-clause-keeps g c = IfOk-from_err _ _ c.from_residual-in_err-put.ensures.0
