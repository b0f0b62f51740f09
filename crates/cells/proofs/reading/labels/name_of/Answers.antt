use Rattle.std.proofs.Common.{◌≡◌, ℕ, sym, subst, ◌∙◌}
use Rattle.cells.specs.Slots.{name_cell}
use Rattle.cells.specs.Sight.{after}
use Rattle.cells.specs.Lookups.{AreWordsOf}
use Rattle.cells.proofs.Asking.{asks_cell}
use Rattle.cells.proofs.Settings.{small_slot}
use Rattle.cells.proofs.reading.labels.name_of.Goals as goal

pub name_cell-requires : goal.name_cell-requires
name_cell-requires g c = small_slot _ (g.met.C.Cells.grounded c.args.cells.now) c.args.slot c.requires

pub returns-clause-ok : goal.returns-clause-ok
returns-clause-ok g c = λ st label m small named.
    let s = g.C.Cells.sight c.words_of.new.cells in
    let words = c.in_ok-words.words.items in
    let are : AreWordsOf (after s st) (name_cell c.args.slot) words =
    subst (λ (n : ℕ). AreWordsOf (after s st) n words) c.name_cell.ensures (c.in_ok-words.ensures.ok st m) in
    let same : label ≡ words = sym (are.body label named.body) in
    c.in_ok-decode_label.ensures label small (same ∙ sym c.as_slice.ensures.value)

pub returns-in_err-words-clause-reads : goal.returns-in_err-words-clause-reads
returns-in_err-words-clause-reads g c = asks_cell c.name_cell.ensures c.words_of.ensures.reads

pub returns-in_err-decode_label-clause-reads : goal.returns-in_err-decode_label-clause-reads
returns-in_err-decode_label-clause-reads g c = asks_cell c.name_cell.ensures c.words_of.ensures.reads

pub returns-clause-reads : goal.returns-clause-reads
returns-clause-reads g c = asks_cell c.name_cell.ensures c.words_of.ensures.reads
