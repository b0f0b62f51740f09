use Rattle.std.proofs.Common.{rules, ◌≡◌, ◌<◌, ◌+◌, ℕ, sym, ap, subst, ◌∙◌, inl}
use Rattle.cells.specs.Slots.{bucket_cell, next_cell, bucket}
use Rattle.cells.specs.Sight.{Reads}
use Rattle.cells.specs.Footprints.{ReadsWhere, IsAlong}
use Rattle.cells.proofs.Along.{LeadsOn, where_same, where_more, leads_first, leads_next, along_name, along_next}
use Rattle.cells.proofs.Sights.{looks_trans}
use Rattle.cells.proofs.Settings.{same_slots}
use Rattle.cells.proofs.Walks.{walk_begins, walk_on, walk_fails, walk_finds, ahead_at_end, ahead_at_last, IsLabelled}
use Rattle.cells.proofs.finding.find.Goals as goal

pub loop-init : goal.loop-init
loop-init g c =
    let old = g.C.Cells.sight c.args.cells.now in
    let new = g.C.Cells.sight c.read.new.self in
    let slots = c.slot_count-slots.result in
    let b = c.bucket.result in
    let label = c.args.label.now in
    let read : Reads (bucket_cell slots b) c.in_ok-word.word old new = search rules in
    let is : slots ≡ new.setting.slots = c.slot_count-slots.ensures.value ∙ sym (same_slots old new read.looks) in (
      read.looks,
      walk_begins new slots is (IsLabelled label) old b c.in_ok-word.word c.bucket.ensures.within
          (λ st i named. (label, named, sym c.bucket.ensures.value)) read,
      subst (λ (n : ℕ). LeadsOn slots n c.in_ok-word.word new) c.bucket.ensures.value (leads_first read),
      where_more (where_same _) c.in_ok-word.ensures.ok.looks.onward c.read.ensures.reads
          (λ st m k at. inl (at ∙ c.bucket_cell.ensures ∙ ap (λ (n : ℕ). bucket_cell c.slot_count-slots.result n) c.bucket.ensures.value)),
    )

pub returns-in_default-clause-ok : goal.returns-in_default-clause-ok
returns-in_default-clause-ok g c =
    let old = g.C.Cells.sight c.args.cells.now in
    let new = g.C.Cells.sight c.loop.cells in
    let slots = c.slot_count-slots.result in
    let inv = c.loop.invariant in
    let none : (i : ℕ) → i < slots → c.loop.word ≡ i + 1 → ⊥ = c.in_default.ensures in
    walk_fails new slots (c.slot_count-slots.ensures.value ∙ sym (same_slots old new inv.0)) c.args.label.now
    (λ st lib v. ahead_at_end slots (IsLabelled c.args.label.now) c.loop.word c.loop.counter _ (inv.1 st lib v) none)

pub returns-in_err-has_label-clause-looks : goal.returns-in_err-has_label-clause-looks
returns-in_err-has_label-clause-looks g c = looks_trans _ _ _ c.loop.invariant.0 c.has_label.ensures.looks

pub returns-then-branch-clause-looks : goal.returns-then-branch-clause-looks
returns-then-branch-clause-looks g c = looks_trans _ _ _ c.loop.invariant.0 c.has_label.ensures.looks

pub returns-then-branch-clause-ok : goal.returns-then-branch-clause-ok
returns-then-branch-clause-ok g c =
    let old = g.C.Cells.sight c.args.cells.now in
    let new = g.C.Cells.sight c.has_label.new.cells in
    let slots = c.slot_count-slots.result in
    let looks = looks_trans _ _ _ c.loop.invariant.0 c.has_label.ensures.looks in
    let link : (c.in-Some.slot < slots) × (c.loop.word ≡ c.in-Some.slot + 1) = c.in-Some.ensures in
    walk_finds new slots (c.slot_count-slots.ensures.value ∙ sym (same_slots old new looks)) c.args.label.now c.in-Some.slot link.0
    (λ st m. (c.in_ok-has_label.ensures.ok st m).0 c.if-branch.true)

pub returns-in_err-word-2-clause-looks : goal.returns-in_err-word-2-clause-looks
returns-in_err-word-2-clause-looks g c =
    looks_trans _ _ _ (looks_trans _ _ _ c.loop.invariant.0 c.has_label.ensures.looks) c.in_err-word-2.ensures.err

pub loop-preserved : goal.loop-preserved
loop-preserved g c =
    let old = g.C.Cells.sight c.args.cells.now in
    let between = g.C.Cells.sight c.has_label.new.cells in
    let new = g.C.Cells.sight c.read-in-loop.new.self in
    let slots = c.slot_count-slots.result in
    let slot = c.in-Some.slot in
    let label = c.args.label.now in
    let looks = looks_trans _ _ _ c.loop.invariant.0 c.has_label.ensures.looks in
    let read : Reads (next_cell slots slot) c.in_ok-word-2.word between new = search rules in
    let link : (slot < slots) × (c.loop.word ≡ slot + 1) = c.in-Some.ensures in
    let is : slots ≡ between.setting.slots = c.slot_count-slots.ensures.value ∙ sym (same_slots old between looks) in (
      looks_trans _ _ _ looks read.looks,
      walk_on _ between new slots (IsLabelled label) c.loop.word c.loop.counter slot c.in_ok-word-2.word is c.has_label.ensures.looks read
          c.loop.invariant.1 link.1
          (λ st m named. let yes = (c.in_ok-has_label.ensures.ok st m).1 named in let no = c.if-branch.false in absurd cc),
      leads_next slot c.loop.invariant.2 c.has_label.ensures.looks read c.in-Some.ensures,
      along_next slot (along_name c.in-Some.slot c.loop.invariant.3 c.loop.invariant.0 c.loop.invariant.2 c.in-Some.ensures
          c.has_label.ensures.looks.onward
          c.has_label.ensures.reads) c.loop.invariant.0 c.loop.invariant.2 c.in-Some.ensures
          c.has_label.ensures.looks.onward read.looks.onward c.next_cell.ensures c.read-in-loop.ensures.reads,
    )

pub returns-clause-ok : goal.returns-clause-ok
returns-clause-ok g c =
    let old = g.C.Cells.sight c.args.cells.now in
    let new = g.C.Cells.sight c.loop.cells in
    let slots = c.slot_count-slots.result in
    let inv = c.loop.invariant in
    let last : c.loop.counter ≡ slots = search rules in
    walk_fails new slots (c.slot_count-slots.ensures.value ∙ sym (same_slots old new inv.0)) c.args.label.now
    (λ st lib v. ahead_at_last slots (IsLabelled c.args.label.now) c.loop.word c.loop.counter _ (inv.1 st lib v) last)

pub returns-in_err-word-clause-reads : goal.returns-in_err-word-clause-reads
returns-in_err-word-clause-reads g c =
    subst (λ (n : ℕ). ReadsWhere (IsAlong n (bucket n c.args.label.now)) (g.C.Cells.sight c.args.cells.now)
    (g.C.Cells.sight c.read.new.self))
    c.slot_count-slots.ensures.value
    (where_more (where_same _) c.in_err-word.ensures.err.onward c.read.ensures.reads
    (λ st m k at. inl (at ∙ c.bucket_cell.ensures ∙ ap (λ (n : ℕ). bucket_cell c.slot_count-slots.result n) c.bucket.ensures.value)))

pub returns-in_default-clause-reads : goal.returns-in_default-clause-reads
returns-in_default-clause-reads g c =
    subst (λ (n : ℕ). ReadsWhere (IsAlong n (bucket n c.args.label.now)) (g.C.Cells.sight c.args.cells.now) (g.C.Cells.sight c.loop.cells))
    c.slot_count-slots.ensures.value
    (c.loop.invariant.3)

pub returns-in_err-has_label-clause-reads : goal.returns-in_err-has_label-clause-reads
returns-in_err-has_label-clause-reads g c =
    subst (λ (n : ℕ). ReadsWhere (IsAlong n (bucket n c.args.label.now)) (g.C.Cells.sight c.args.cells.now)
    (g.C.Cells.sight c.has_label.new.cells))
    c.slot_count-slots.ensures.value
    (along_name c.in-Some.slot c.loop.invariant.3 c.loop.invariant.0 c.loop.invariant.2 c.in-Some.ensures c.has_label.ensures.looks.onward
    c.has_label.ensures.reads)

pub returns-then-branch-clause-reads : goal.returns-then-branch-clause-reads
returns-then-branch-clause-reads g c =
    subst (λ (n : ℕ). ReadsWhere (IsAlong n (bucket n c.args.label.now)) (g.C.Cells.sight c.args.cells.now)
    (g.C.Cells.sight c.has_label.new.cells))
    c.slot_count-slots.ensures.value
    (along_name c.in-Some.slot c.loop.invariant.3 c.loop.invariant.0 c.loop.invariant.2 c.in-Some.ensures c.has_label.ensures.looks.onward
    c.has_label.ensures.reads)

pub returns-in_err-word-2-clause-reads : goal.returns-in_err-word-2-clause-reads
returns-in_err-word-2-clause-reads g c =
    subst (λ (n : ℕ). ReadsWhere (IsAlong n (bucket n c.args.label.now)) (g.C.Cells.sight c.args.cells.now)
    (g.C.Cells.sight c.read-in-loop.new.self))
    c.slot_count-slots.ensures.value
    (along_next c.in-Some.slot (along_name c.in-Some.slot c.loop.invariant.3 c.loop.invariant.0 c.loop.invariant.2 c.in-Some.ensures
    c.has_label.ensures.looks.onward
    c.has_label.ensures.reads) c.loop.invariant.0 c.loop.invariant.2 c.in-Some.ensures
    c.has_label.ensures.looks.onward c.in_err-word-2.ensures.err.onward c.next_cell.ensures c.read-in-loop.ensures.reads)

pub returns-clause-reads : goal.returns-clause-reads
returns-clause-reads g c =
    subst (λ (n : ℕ). ReadsWhere (IsAlong n (bucket n c.args.label.now)) (g.C.Cells.sight c.args.cells.now) (g.C.Cells.sight c.loop.cells))
    c.slot_count-slots.ensures.value
    (c.loop.invariant.3)
