use Rattle.std.proofs.Common.{◌≡◌, ℕ, sym, subst, ◌∙◌}
use Rattle.cells.specs.Slots.{proof_cell}
use Rattle.cells.specs.Sight.{after}
use Rattle.cells.specs.Shows.{AreStoredAs}
use Rattle.cells.specs.Lookups.{AreWordsOf}
use Rattle.cells.proofs.Small.{steps_small}
use Rattle.cells.proofs.ReadBack.{stored_words}
use Rattle.cells.proofs.Asking.{asks_cell}
use Rattle.cells.proofs.Settings.{small_slot}
use Rattle.cells.proofs.reading.proofs.stored_proof.Goals as goal

pub proof_cell-requires : goal.proof_cell-requires
proof_cell-requires g c = small_slot _ (g.met.C.Cells.grounded c.args.cells.now) c.args.slot c.requires

pub returns-clause-ok : goal.returns-clause-ok
returns-clause-ok g c = λ st lib v e at h.
    let s = g.C.Cells.sight c.words_of.new.cells in
    let slots = s.setting.slots in
    let words = c.in_ok-words.words.items in
    let are : AreWordsOf (after s st) (proof_cell c.args.slot) words =
    subst (λ (n : ℕ). AreWordsOf (after s st) n words) c.proof_cell.ensures (c.in_ok-words.ensures.ok st v.matches) in
    let kept = stored_words slots c.args.slot (after s st) e.assertion.kind e.assertion.proof words h.proof are in
    let made : c.in_ok-decode_proof.field-0.items ≡ kept.0 =
    c.in_ok-decode_proof.ensures kept.0 (steps_small s.setting lib v.verifies e at (after s st) kept.0 kept.2) (kept.1
    ∙ sym c.as_slice.ensures.value) in
    subst (AreStoredAs slots (after s st) e.assertion.proof) (sym made) kept.2

pub returns-in_err-words-clause-reads : goal.returns-in_err-words-clause-reads
returns-in_err-words-clause-reads g c = asks_cell c.proof_cell.ensures c.words_of.ensures.reads

pub returns-in_err-decode_proof-clause-reads : goal.returns-in_err-decode_proof-clause-reads
returns-in_err-decode_proof-clause-reads g c = asks_cell c.proof_cell.ensures c.words_of.ensures.reads

pub returns-clause-reads : goal.returns-clause-reads
returns-clause-reads g c = asks_cell c.proof_cell.ensures c.words_of.ensures.reads
