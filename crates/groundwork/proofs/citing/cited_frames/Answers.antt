use Rattle.std.proofs.Common.{◌≡◌, ◌∙◌, ◌<◌, ℕ, length, refl, sym, ap, subst, arith}
use Rattle.std.specs.Prelude.{min}
use Rattle.std.proofs.lemmas.List.{get_or_default}
use Rattle.mmsyntax.specs.declared.statement.Step.TheVariants.{Float, Cite}
use Rattle.mmsyntax.specs.ProofWords.{seen_step}
use Rattle.bodystore.specs.declared.stored.StoredStep.TheVariants as stored
use Rattle.ranges.specs.Ranges.{Has}
use Rattle.ranges.proofs.Members.{has_from_contains}
use Rattle.cells.proofs.Sights.{looks_trans}
use Rattle.cells.proofs.Settings.{same_slots}
use Rattle.cells.proofs.Asking.{asks_cell, asks_trans}
use Rattle.groundwork.specs.Citing.{frames_in}
use Rattle.groundwork.proofs.NotedFrames.{noted_more, noted_past, all_noted, no_citation}
use Rattle.groundwork.proofs.citing.cited_frames.Goals as goal

pub note_frame-requires : goal.note_frame-requires
note_frame-requires g c =
    let slot = stored.Slot c.in-Slot.slot in
    let within : c.loop-i.i < length c.args.kept.now = omega (arith, c.min-i-end.ensures, c.loop-i-test.true) in
    let has : Has slot c.args.kept.now =
    has_from_contains c.args.kept.now slot (
      c.loop-i.i,
      within,
      get_or_default c.args.kept.now c.loop-i.i slot (stored.Float 0) within
          ∙ c.in-Slot.is,
    ) in
    subst (λ (n : ℕ). c.in-Slot.slot < n) (sym (same_slots _ _ c.loop-i.invariant.0)) (c.requires c.in-Slot.slot has)

pub returns-in_err-note_frame-clause-looks : goal.returns-in_err-note_frame-clause-looks
returns-in_err-note_frame-clause-looks g c = looks_trans _ _ _ c.loop-i.invariant.0 c.note_frame.ensures.looks

pub loop-i-preserved-in_default : goal.loop-i-preserved-in_default
loop-i-preserved-in_default g c =
    let s = g.C.Cells.sight c.loop-i.cells in
    let steps = c.args.steps.now in
    let kept = c.args.kept.now in
    let i = c.loop-i.i in
    let of_steps : i < length steps = omega (arith, c.len.ensures.len, c.min-i-end.ensures, c.loop-i-test.true) in
    let of_kept : i < length kept = omega (arith, c.min-i-end.ensures, c.loop-i-test.true) in (
      c.loop-i.invariant.0,
      noted_past s c.args.prelude.now steps kept i (frames_in c.loop-i.by_label) (Float 0) (stored.Float 0) c.loop-i.invariant.1 of_kept
          (λ label slot is _. no_citation c.step.result label c.in_default.not-Cite
          (c.step.ensures ∙ get_or_default steps i (seen_step c.step.result) (Float 0) of_steps ∙ is)),
      c.loop-i.invariant.2,
    )

pub loop-i-preserved-in_default-kept : goal.loop-i-preserved-in_default-kept
loop-i-preserved-in_default-kept g c =
    let s = g.C.Cells.sight c.loop-i.cells in
    let kept = c.args.kept.now in
    let of_kept : c.loop-i.i < length kept = omega (arith, c.min-i-end.ensures, c.loop-i-test.true) in (
      c.loop-i.invariant.0,
      noted_past s c.args.prelude.now c.args.steps.now kept c.loop-i.i (frames_in c.loop-i.by_label) (Float 0)
          (stored.Float 0) c.loop-i.invariant.1
          of_kept (λ label slot _ is. c.in_default-kept.not-Slot slot is),
      c.loop-i.invariant.2,
    )

pub loop-i-preserved : goal.loop-i-preserved
loop-i-preserved g c =
    let s = g.C.Cells.sight c.loop-i.cells in
    let s' = g.C.Cells.sight c.note_frame.new.cells in
    let steps = c.args.steps.now in
    let kept = c.args.kept.now in
    let i = c.loop-i.i in
    let slot = stored.Slot c.in-Slot.slot in
    let label = c.in-Cite.label.now in
    let of_steps : i < length steps = omega (arith, c.len.ensures.len, c.min-i-end.ensures, c.loop-i-test.true) in
    let of_kept : i < length kept = omega (arith, c.min-i-end.ensures, c.loop-i-test.true) in
    let has : Has slot kept = has_from_contains kept slot (
      i,
      of_kept,
      get_or_default kept i slot (stored.Float 0) of_kept
          ∙ c.in-Slot.is,
    ) in
    let cites : seen_step c.step.result ≡ Cite label = ap seen_step c.in-Cite.is in (
      looks_trans _ _ _ c.loop-i.invariant.0 c.note_frame.ensures.looks,
      noted_more s s' c.args.prelude.now steps kept i label c.in-Slot.slot (frames_in c.loop-i.by_label)
          (frames_in c.note_frame.new.by_label)
          (Float 0) (stored.Float 0) c.note_frame.ensures.looks c.loop-i.invariant.1 of_kept
          (sym (c.step.ensures ∙ get_or_default steps i (seen_step c.step.result) (Float 0) of_steps) ∙ cites) c.in-Slot.is
          c.in_ok-note_frame.ensures.ok,
      asks_trans c.loop-i.invariant.2 (asks_cell (c.in-Slot.slot, has, refl) c.note_frame.ensures.reads),
    )

pub returns-clause-ok : goal.returns-clause-ok
returns-clause-ok g c =
    let end : c.loop-i.i ≡ min (length c.args.steps.now) (length c.args.kept.now) =
    omega (arith, c.len.ensures.len, c.min-i-end.ensures, c.loop-i-test.false, c.loop-i.auto.i-end) in
    all_noted (g.C.Cells.sight c.loop-i.cells) c.args.prelude.now c.args.steps.now c.args.kept.now c.loop-i.i
    (frames_in c.loop-i.by_label) end c.loop-i.invariant.1

pub returns-in_err-note_frame-clause-reads : goal.returns-in_err-note_frame-clause-reads
returns-in_err-note_frame-clause-reads g c =
    let slot = stored.Slot c.in-Slot.slot in
    let within : c.loop-i.i < length c.args.kept.now = omega (arith, c.min-i-end.ensures, c.loop-i-test.true) in
    let has : Has slot c.args.kept.now =
    has_from_contains c.args.kept.now slot (
      c.loop-i.i,
      within,
      get_or_default c.args.kept.now c.loop-i.i slot (stored.Float 0) within
          ∙ c.in-Slot.is,
    ) in
    asks_trans c.loop-i.invariant.2 (asks_cell (c.in-Slot.slot, has, refl) c.note_frame.ensures.reads)
