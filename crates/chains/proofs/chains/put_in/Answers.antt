use Rattle.std.proofs.Common.{◌≡◌, ◌<◌, ℕ, ap, subst, ◌∙◌, inl, inr, arith}
use Rattle.cells.specs.Slots.{bucket}
use Rattle.cells.specs.State.{State}
use Rattle.cells.proofs.Sights.{onward_trans, writes_onward, looks_trans, matches_back, after_looks}
use Rattle.cells.specs.Aside.{IsOfFront}
use Rattle.cells.proofs.Keeping.{keeps_trans, keeps_wider, keeps_put, keeps_written}
use Rattle.cells.proofs.Asking.{nothing_trans, nothing_written, asks_cell, asks_trans, asks_still}
use Rattle.chains.proofs.Walking.{in_front, puts_front}
use Rattle.chains.proofs.chains.put_in.Goals as goal

pub returns-in_err-read-clause-onward : goal.returns-in_err-read-clause-onward
returns-in_err-read-clause-onward g c = onward_trans _ _ _ c.in_ok-first.ensures.ok.looks.onward c.in_err-read.ensures.err.onward

pub write-requires-2-clause-read : goal.write-requires-2-clause-read
write-requires-2-clause-read g c =
    (writes_onward _ _ _ _ c.write.ensures).read _ (c.in_ok-read.ensures.ok.looks.onward.read _ c.in_ok-first.ensures.ok.read)

pub returns-clause-onward : goal.returns-clause-onward
returns-clause-onward g c =
    onward_trans _ _ _ (looks_trans _ _ _ c.in_ok-first.ensures.ok.looks c.in_ok-read.ensures.ok.looks).onward
    (onward_trans _ _ _ (writes_onward _ _ _ _ c.write.ensures) (writes_onward _ _ _ _ c.write-2.ensures))

pub returns-clause-ok : goal.returns-clause-ok
returns-clause-ok g c st held e m chained label_is free =
    let first = c.in_ok-first.ensures.ok in
    let second = c.in_ok-read.ensures.ok.looks in
    let both = looks_trans _ _ _ first.looks second in
    let wrote = onward_trans _ _ _ (writes_onward _ _ _ _ c.write.ensures) (writes_onward _ _ _ _ c.write-2.ensures) in
    let old = g.C.Cells.sight c.args.cells.now in
    let slots_are = c.slot_count-slots.ensures.value in
    let bucket_is : c.bucket.result ≡ bucket old.setting.slots c.args.label.now =
    c.bucket.ensures.value ∙ ap (λ (n : ℕ). bucket n c.args.label.now) slots_are in
    in_front old _ _ st _ _ _ c.args.slot c.args.label.now held e _ (after_looks _ _ st both) c.write.ensures c.write-2.ensures
    (omega (arith, c.bucket_cell-front.ensures, slots_are, bucket_is)) (omega (arith, c.next_cell-2.ensures, slots_are))
    (first.value st (matches_back _ _ st (onward_trans _ _ _ second.onward wrote) m)
    ∙ ap (λ (x : State). x.value c.bucket_cell-front.result) (after_looks _ _ st first.looks))
    c.requires.slot (subst (λ (n : ℕ). n < old.setting.slots) bucket_is (omega (arith, c.bucket.ensures.within, slots_are)))
    chained label_is free

pub returns-clause-front : goal.returns-clause-front
returns-clause-front g c st m =
    let first = c.in_ok-first.ensures.ok in
    let second = c.in_ok-read.ensures.ok.looks in
    let both = looks_trans _ _ _ first.looks second in
    let wrote = onward_trans _ _ _ (writes_onward _ _ _ _ c.write.ensures) (writes_onward _ _ _ _ c.write-2.ensures) in
    let old = g.C.Cells.sight c.args.cells.now in
    let slots_are = c.slot_count-slots.ensures.value in
    let bucket_is : c.bucket.result ≡ bucket old.setting.slots c.args.label.now =
    c.bucket.ensures.value ∙ ap (λ (n : ℕ). bucket n c.args.label.now) slots_are in
    let puts = puts_front old _ (g.C.Cells.sight c.write-2.new.self) st _ _ _ c.args.slot (bucket old.setting.slots c.args.label.now) _
    (after_looks _ _ st both) c.write.ensures c.write-2.ensures
    (omega (arith, c.bucket_cell-front.ensures, slots_are, bucket_is)) (omega (arith, c.next_cell-2.ensures, slots_are))
    (first.value st (matches_back _ _ st (onward_trans _ _ _ second.onward wrote) m)
    ∙ ap (λ (x : State). x.value c.bucket_cell-front.result) (after_looks _ _ st first.looks))
    (subst (λ (n : ℕ). n < old.setting.slots) bucket_is (omega (arith, c.bucket.ensures.within, slots_are))) in
    record { first = puts.front; behind = puts.link }

pub returns-clause-keeps : goal.returns-clause-keeps
returns-clause-keeps g c =
    let s0 = g.C.Cells.sight c.args.cells.now in
    let s3 = g.C.Cells.sight c.write.new.self in
    let s4 = g.C.Cells.sight c.write-2.new.self in
    let slots = s0.setting.slots in
    let such = IsOfFront slots c.args.slot c.args.label.now in
    let slots_are = c.slot_count-slots.ensures.value in
    let bucket_is : c.bucket.result ≡ bucket s0.setting.slots c.args.label.now =
    c.bucket.ensures.value ∙ ap (λ (n : ℕ). bucket n c.args.label.now) slots_are in
    let link = keeps_put _ _ s0 _ s3 (c.in_ok-read.ensures.ok.looks.writes ∙ c.in_ok-first.ensures.ok.looks.writes) c.write.ensures in
    let front = keeps_written _ _ s3 s4 c.write-2.ensures in
    keeps_trans such s0 s3 s4
    (keeps_wider (λ k. k ≡ c.next_cell-2.result) such s0 s3 (λ k is. inr (omega (arith, is, c.next_cell-2.ensures, slots_are))) link)
    (keeps_wider (λ k. k ≡ c.bucket_cell-front.result) such s3 s4
    (λ k is. inl (omega (arith, is, c.bucket_cell-front.ensures, slots_are, bucket_is))) front)

pub returns-in_err-first-clause-reads : goal.returns-in_err-first-clause-reads
returns-in_err-first-clause-reads g c =
    let slots_are = c.slot_count-slots.ensures.value in
    let bucket_is : c.bucket.result ≡ bucket (g.C.Cells.sight c.args.cells.now).setting.slots c.args.label.now =
    c.bucket.ensures.value ∙ ap (λ (n : ℕ). bucket n c.args.label.now) slots_are in
    asks_cell (inl (omega (arith, c.bucket_cell-front.ensures, slots_are, bucket_is))) c.read.ensures.reads

pub returns-in_err-read-clause-reads : goal.returns-in_err-read-clause-reads
returns-in_err-read-clause-reads g c =
    let slots_are = c.slot_count-slots.ensures.value in
    let bucket_is : c.bucket.result ≡ bucket (g.C.Cells.sight c.args.cells.now).setting.slots c.args.label.now =
    c.bucket.ensures.value ∙ ap (λ (n : ℕ). bucket n c.args.label.now) slots_are in
    asks_trans (asks_cell (inl (omega (arith, c.bucket_cell-front.ensures, slots_are, bucket_is))) c.read.ensures.reads)
    (asks_cell (inr (omega (arith, c.next_cell.ensures, slots_are))) c.read-2.ensures.reads)

pub returns-clause-reads : goal.returns-clause-reads
returns-clause-reads g c =
    let slots_are = c.slot_count-slots.ensures.value in
    let bucket_is : c.bucket.result ≡ bucket (g.C.Cells.sight c.args.cells.now).setting.slots c.args.label.now =
    c.bucket.ensures.value ∙ ap (λ (n : ℕ). bucket n c.args.label.now) slots_are in
    asks_still (asks_trans (asks_cell (inl (omega (arith, c.bucket_cell-front.ensures, slots_are, bucket_is))) c.read.ensures.reads)
    (asks_cell (inr (omega (arith, c.next_cell.ensures, slots_are))) c.read-2.ensures.reads))
    (nothing_trans (nothing_written c.write.ensures) (nothing_written c.write-2.ensures))
