use Rattle.std.proofs.Common.{◌≡◌, ◌<◌, ◌-◌, length, inl, inr, arith}
use Rattle.std.specs.Prelude.{◌⊎◌}
use Rattle.finishing.proofs.Putting.{one_skipped, one_put, amid_next}
use Rattle.finishing.proofs.ordering.put_all.Goals as goal
use Rattle.finishing.proofs.ordering.put_all.Goals.{else-number-ge1-via-then-number-ge1+else-number-len, else-number-ge1-via-else-number-ge1}

pub loop-record-preserved-then-number-len : goal.loop-record-preserved-then-number-len
loop-record-preserved-then-number-len c =
    let a = c.loop-record.invariant in
    let r = c.in-Some.record in
    let steps = c.in-Some.ensures.steps in
    let some = c.if-number-ge1.true in
    let within = c.if-number-len.true in
    let len = c.len.ensures in
    let ok = c.loop-record.entries.ok.0 in
    amid_next _ _ _ _ _ r _ _ _ a steps.0 steps.1
    (one_put a.front r _ _ a.put (r.number - 1) c.entry_of-entry.result (omega (arith, some)) (omega (arith, some, within, len, ok))
    c.entry_of-entry.ensures)

pub loop-record-preserved-else-number-ge1 : goal.loop-record-preserved-else-number-ge1
loop-record-preserved-else-number-ge1 c =
    let a = c.loop-record.invariant in
    let r = c.in-Some.record in
    let old = c.loop-record.entries in
    let steps = c.in-Some.ensures.steps in
    let ok = old.ok.0 in
    let outside : (r.number ≡ 0) ⊎ (length old.items < r.number) =
    elim c.else-number-ge1.branch [
      | else-number-ge1-via-then-number-ge1+else-number-len w ↦
          let past = w.if-number-len.false in let len = w.len.ensures in inr (omega (arith, past, len, ok))
      | else-number-ge1-via-else-number-ge1 w ↦ let none = w.if-number-ge1.false in inl (omega (arith, none))
    ] in
    amid_next _ _ _ _ _ r _ _ _ a steps.0 steps.1 (one_skipped a.front r _ _ a.put outside)

pub loop-record-preserved : goal.loop-record-preserved
loop-record-preserved c =
    let a = c.loop-record.invariant in
    let r = c.in-Some.record in
    let old = c.loop-record.entries in
    let steps = c.in-Some.ensures.steps in
    let ok = old.ok.0 in
    let outside : (r.number ≡ 0) ⊎ (length old.items < r.number) =
    elim c.else-number-ge1.branch [
      | else-number-ge1-via-then-number-ge1+else-number-len w ↦
          let past = w.if-number-len.false in let len = w.len.ensures in inr (omega (arith, past, len, ok))
      | else-number-ge1-via-else-number-ge1 w ↦ let none = w.if-number-ge1.false in inl (omega (arith, none))
    ] in
    amid_next _ _ _ _ _ r _ _ _ a steps.0 steps.1 (one_skipped a.front r _ _ a.put outside)
