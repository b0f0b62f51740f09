use Rattle.std.proofs.Common.{◌≡◌, ℕ, ◌+◌, List, [], ◌∷◌, ◌++◌, ◌<◌, length, map, get_or, sym, ap, subst, ◌∙◌, inl, arith, length-append}
use Rattle.std.proofs.lemmas.Bool.{both_ways}
use Rattle.std.proofs.lemmas.List.{length-map, get_or-map}
use Rattle.std.proofs.lemmas.List.Elements.{All-get_or}
use Rattle.mmsyntax.specs.declared.statement.Step.{Step}
use Rattle.mmsyntax.specs.ProofWords.{AreWords, step_of, steps_of}
use Rattle.bodystore.specs.Bodies.{stored_step}
use Rattle.bodystore.specs.declared.stored.StoredStep.{StoredStep}
use Rattle.bodystore.specs.declared.stored.StoredStep.TheVariants as stored
use Rattle.cells.specs.Sight.{ReadsWithin, after}
use Rattle.cells.specs.Shows.{AreStoredAs}
use Rattle.cells.specs.Lookups.{IsStepOf}
use Rattle.cells.specs.Footprints.{IsNameCited}
use Rattle.cells.specs.Words.{HasSmallPlace}
use Rattle.cells.proofs.Asking.{nothing_same, asks_nothing, asks_cell, asks_trans}
use Rattle.cells.proofs.AskingSteps.{name_of_one, proof_within}
use Rattle.cells.proofs.Sights.{looks_trans, looks_refl}
use Rattle.cells.proofs.Settings.{same_slots, small_slot}
use Rattle.cells.proofs.ReadBack.{held_later, read_back_on, read_back_all, steps_of_on, steps_at}
use Rattle.cells.proofs.Small.{steps_short, places_small}
use Rattle.cells.proofs.NamedWords.{more_words, more_steps}
use Rattle.cells.proofs.reading.proofs.proof.Goals as goal

pub proof_cell-requires : goal.proof_cell-requires
proof_cell-requires g c = small_slot _ (g.met.C.Cells.grounded c.args.cells.now) c.args.slot c.requires

pub word_again-requires-clause-slots : goal.word_again-requires-clause-slots
word_again-requires-clause-slots g c = c.slot_count-slots.ensures.value ∙ sym (same_slots _ _ c.loop-i.invariant.0)

pub returns-in_err-word-clause-looks : goal.returns-in_err-word-clause-looks
returns-in_err-word-clause-looks g c =
    looks_trans _ _ _ c.words_of.ensures.looks (looks_trans _ _ _ c.loop-i.invariant.0 c.word_again.ensures.looks)

pub returns-then-not-is_small-clause-looks : goal.returns-then-not-is_small-clause-looks
returns-then-not-is_small-clause-looks g c = looks_trans _ _ _ c.words_of.ensures.looks c.loop-i.invariant.0

pub returns-clause-looks : goal.returns-clause-looks
returns-clause-looks g c = looks_trans _ _ _ c.words_of.ensures.looks c.loop-i.invariant.0

pub loop-i-init : goal.loop-i-init
loop-i-init g c =
    let none : length c.in_ok-words.words.items ≡ 0 = ap (λ (ws : List ℕ). length ws) c.in_ok-words.ensures.items in
    let empty : steps_of c.new-cited.result.items c.in_ok-words.words.items ≡ [] =
    ap (λ (ws : List ℕ). steps_of c.new-cited.result.items ws) c.in_ok-words.ensures.items in
    let no_step : length (steps_of c.new-cited.result.items c.in_ok-words.words.items) ≡ 0 =
    ap (λ (ys : List Step). length ys) empty in
    let no_label : length c.new-cited.result.items ≡ 0 = ap (λ (ls : List (List ℕ)). length ls) c.new-cited.ensures.items in (
      looks_refl _,
      λ st xs m short z. empty,
      none,
      λ k d e lt. absurd (omega (arith, no_step, lt)),
      asks_nothing (nothing_same _),
      λ k d lt. absurd (omega (arith, none, lt)),
      omega (arith, no_label),
      omega (arith, c.in_ok-words.ensures.exact),
    )

pub loop-i-preserved : goal.loop-i-preserved
loop-i-preserved g c =
    let between = g.C.Cells.sight c.loop-i.cells in
    let s = g.C.Cells.sight c.word_again.new.cells in
    let slots = c.slot_count-slots.result in
    let i = c.loop-i.i in
    let items = c.as_slice-stored.result.now in
    let kept = map stored_step items in
    let cited = c.loop-i.cited.items in
    let more = c.word_again.new.cited.items in
    let words = c.loop-i.words.items in
    let word = c.in_ok-word.word in
    let longer : c.push_reserved.new.self.items ≡ words ++ word ∷ [] = c.push_reserved.ensures.items in
    let push : steps_of more c.push_reserved.new.self.items ≡ steps_of cited words ++ step_of more word ∷ [] =
    ap (steps_of more) longer ∙ more_steps cited more words word c.word_again.ensures.kept c.loop-i.invariant.5 in
    let before = c.loop-i.invariant.2 in
    let count : length (steps_of cited words) ≡ i = length-map words (step_of cited) ∙ before in
    let few = c.loop-i.invariant.6 in
    let added = c.word_again.ensures.few in
    let lt : i < length kept = omega (arith, length-map items stored_step, c.loop-i-test.true) in
    let at : get_or kept i (stored.Float 0) ≡ stored_step (get_or items i 0) =
    get_or-map stored_step items i 0 (stored.Float 0) c.loop-i-test.true in
    let is : IsStepOf slots s (get_or kept i (stored.Float 0)) (step_of more word) =
    subst (λ (y : StoredStep). IsStepOf slots s y (step_of more word)) (sym at) c.in_ok-word.ensures.ok in (
      looks_trans _ _ _ c.loop-i.invariant.0 c.word_again.ensures.looks,
      read_back_on between s slots i kept (steps_of cited words) (steps_of more c.push_reserved.new.self.items)
          (step_of more word) (stored.Float 0) c.word_again.ensures.looks c.loop-i.invariant.1 lt push is,
      (let long : length c.push_reserved.new.self.items ≡ length words + 1 =
          ap (λ (ws : List ℕ). length ws) longer ∙ length-append words (word ∷ []) in
          omega (arith, long, before)),
      steps_of_on between s slots i kept (steps_of cited words) (steps_of more c.push_reserved.new.self.items)
          (step_of more word) (stored.Float 0) c.word_again.ensures.looks c.loop-i.invariant.3 count lt push is,
      asks_trans c.loop-i.invariant.4 (name_of_one kept i (stored.Float 0) lt
          (subst (λ (y : StoredStep). ReadsWithin (IsNameCited y) between s) (sym at) c.word_again.ensures.reads)),
      subst (AreWords more) (sym longer)
          (more_words cited more words word c.word_again.ensures.kept c.loop-i.invariant.5 c.in_ok-word.ensures.word),
      omega (arith, few, added),
      omega (arith, c.push_reserved.ensures.capacity, c.loop-i.invariant.7),
    )

pub returns-clause-ok : goal.returns-clause-ok
returns-clause-ok g c = λ st lib v e at h.
    let old = g.C.Cells.sight c.words_of.new.cells in
    let s = g.C.Cells.sight c.loop-i.cells in
    let slots = c.slot_count-slots.result in
    let items = c.as_slice-stored.result.now in
    let kept = map stored_step items in
    let i = c.loop-i.i in
    let xs = e.assertion.proof in
    let are : AreStoredAs old.setting.slots (after s st) xs kept =
    held_later old s c.args.slot (λ x l f. AreStoredAs old.setting.slots x f.assertion.proof kept) c.loop-i.invariant.0
    (steps_at old c.args.slot c.proof_cell.result items c.in_ok-body.body.items c.proof_cell.ensures
    c.as_slice-stored.ensures.value c.in_ok-body.ensures.ok)
    st lib v e at h in
    let same : AreStoredAs slots (after s st) xs kept =
    subst (λ (n : ℕ). AreStoredAs n (after s st) xs kept) (sym c.slot_count-slots.ensures.value) are in
    let n : length kept ≡ i = omega (arith, length-map items stored_step, c.loop-i-test.false, c.loop-i.auto.i-end) in
    c.from_words.ensures ∙ read_back_all s slots i kept (steps_of c.loop-i.cited.items c.loop-i.words.items) xs st
    c.loop-i.invariant.1 n v.matches (steps_short s.setting lib v.verifies e at) same

pub returns-then-stored-clause-ok : goal.returns-then-stored-clause-ok
returns-then-stored-clause-ok g c = λ st lib v e at h.
    let s = g.C.Cells.sight c.words_of.new.cells in
    let items = c.as_slice-stored.result.now in
    let are = steps_at s c.args.slot c.proof_cell.result items c.in_ok-body.body.items c.proof_cell.ensures c.as_slice-stored.ensures.value
    c.in_ok-body.ensures.ok st lib v e at h in
    let small = places_small s.setting lib v.verifies e at (after s st) (map stored_step items) are in
    absurd (omega (arith, small.0, length-map items stored_step, c.if-stored.true))

pub returns-then-not-is_small-clause-ok : goal.returns-then-not-is_small-clause-ok
returns-then-not-is_small-clause-ok g c = λ st lib v e at h.
    let old = g.C.Cells.sight c.words_of.new.cells in
    let s = g.C.Cells.sight c.loop-i.cells in
    let items = c.as_slice-stored.result.now in
    let kept = map stored_step items in
    let i = c.loop-i.i in
    let are : AreStoredAs old.setting.slots (after s st) e.assertion.proof kept =
    held_later old s c.args.slot (λ x l f. AreStoredAs old.setting.slots x f.assertion.proof kept) c.loop-i.invariant.0
    (steps_at old c.args.slot c.proof_cell.result items c.in_ok-body.body.items c.proof_cell.ensures
    c.as_slice-stored.ensures.value c.in_ok-body.ensures.ok)
    st lib v e at h in
    let same : AreStoredAs s.setting.slots (after s st) e.assertion.proof kept =
    subst (λ (n : ℕ). AreStoredAs n (after s st) e.assertion.proof kept) (sym (same_slots old s c.loop-i.invariant.0)) are in
    let small = places_small s.setting lib v.verifies e at (after s st) kept same in
    let lt : i < length kept = omega (arith, length-map items stored_step, c.loop-i-test.true) in
    let here : HasSmallPlace (get_or kept i (stored.Float 0)) = All-get_or HasSmallPlace kept i (stored.Float 0) lt small.1 in
    let step : c.of_word-step.result ≡ get_or kept i (stored.Float 0) =
    c.of_word-step.ensures.step ∙ sym (get_or-map stored_step items i 0 (stored.Float 0) c.loop-i-test.true) in
    absurd (both_ways c.is_small.result c.if-not-is_small.true (c.is_small.ensures.1 (subst HasSmallPlace (sym step) here)))

pub returns-in_err-body-clause-reads : goal.returns-in_err-body-clause-reads
returns-in_err-body-clause-reads g c = λ st lib v e at h. asks_cell (inl c.proof_cell.ensures) c.words_of.ensures.reads

pub returns-then-stored-clause-reads : goal.returns-then-stored-clause-reads
returns-then-stored-clause-reads g c = λ st lib v e at h. asks_cell (inl c.proof_cell.ensures) c.words_of.ensures.reads

pub returns-in_err-words-clause-reads : goal.returns-in_err-words-clause-reads
returns-in_err-words-clause-reads g c = λ st lib v e at h. asks_cell (inl c.proof_cell.ensures) c.words_of.ensures.reads

pub returns-in_err-hints-clause-reads : goal.returns-in_err-hints-clause-reads
returns-in_err-hints-clause-reads g c = λ st lib v e at h. asks_cell (inl c.proof_cell.ensures) c.words_of.ensures.reads

pub returns-in_err-word-clause-reads : goal.returns-in_err-word-clause-reads
returns-in_err-word-clause-reads g c =
    let old = g.C.Cells.sight c.args.cells.now in
    let first = g.C.Cells.sight c.words_of.new.cells in
    let between = g.C.Cells.sight c.loop-i.cells in
    let s = g.C.Cells.sight c.word_again.new.cells in
    let items = c.as_slice-stored.result.now in
    let kept = map stored_step items in
    let i = c.loop-i.i in
    let lt : i < length kept = omega (arith, length-map items stored_step, c.loop-i-test.true) in
    let at : get_or kept i (stored.Float 0) ≡ stored_step (get_or items i 0) =
    get_or-map stored_step items i 0 (stored.Float 0) c.loop-i-test.true in
    proof_within old first s c.args.slot kept c.words_of.ensures.looks (looks_trans _ _ _ c.loop-i.invariant.0 c.word_again.ensures.looks)
    (steps_at first c.args.slot c.proof_cell.result items c.in_ok-body.body.items c.proof_cell.ensures
    c.as_slice-stored.ensures.value c.in_ok-body.ensures.ok)
    (asks_cell c.proof_cell.ensures c.words_of.ensures.reads)
    (asks_trans c.loop-i.invariant.4 (name_of_one kept i (stored.Float 0) lt
    (subst (λ (y : StoredStep). ReadsWithin (IsNameCited y) between s) (sym at) c.word_again.ensures.reads)))

pub returns-then-not-is_small-clause-reads : goal.returns-then-not-is_small-clause-reads
returns-then-not-is_small-clause-reads g c =
    let old = g.C.Cells.sight c.args.cells.now in
    let first = g.C.Cells.sight c.words_of.new.cells in
    let items = c.as_slice-stored.result.now in
    proof_within old first (g.C.Cells.sight c.loop-i.cells) c.args.slot (map stored_step items) c.words_of.ensures.looks
    c.loop-i.invariant.0
    (steps_at first c.args.slot c.proof_cell.result items c.in_ok-body.body.items c.proof_cell.ensures
    c.as_slice-stored.ensures.value c.in_ok-body.ensures.ok)
    (asks_cell c.proof_cell.ensures c.words_of.ensures.reads) c.loop-i.invariant.4

pub returns-clause-reads : goal.returns-clause-reads
returns-clause-reads g c =
    let old = g.C.Cells.sight c.args.cells.now in
    let first = g.C.Cells.sight c.words_of.new.cells in
    let items = c.as_slice-stored.result.now in
    proof_within old first (g.C.Cells.sight c.loop-i.cells) c.args.slot (map stored_step items) c.words_of.ensures.looks
    c.loop-i.invariant.0
    (steps_at first c.args.slot c.proof_cell.result items c.in_ok-body.body.items c.proof_cell.ensures
    c.as_slice-stored.ensures.value c.in_ok-body.ensures.ok)
    (asks_cell c.proof_cell.ensures c.words_of.ensures.reads) c.loop-i.invariant.4
