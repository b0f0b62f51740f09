use Rattle.std.proofs.Common.{rules, ◌≢◌, ◌<◌, ℕ, [], sym, subst}
use Rattle.cells.specs.Slots.{name_cell}
use Rattle.cells.specs.Sight.{Reads}
use Rattle.cells.proofs.Sights.{looks_trans}
use Rattle.cells.proofs.Asking.{asks_cell, asks_still}
use Rattle.cells.proofs.Settings.{same_slots, small_slot}
use Rattle.cells.proofs.Bodies.{value_later, knows_later, same_words}
use Rattle.cells.proofs.finding.has_label.Goals as goal

pub name_cell-requires : goal.name_cell-requires
name_cell-requires g c = small_slot _ (g.met.C.Cells.grounded c.args.cells.now) c.args.slot c.requires

pub returns-clause-looks : goal.returns-clause-looks
returns-clause-looks g c = looks_trans _ _ _ c.in_ok-word.ensures.ok.looks c.has_words.ensures.looks

pub returns-clause-ok : goal.returns-clause-ok
returns-clause-ok g c = λ st m.
    let s = g.C.Cells.sight c.has_words.new.cells in
    let label = c.args.label.now in
    let cell = name_cell c.args.slot in
    let old = g.C.Cells.sight c.args.cells.now in
    let between = g.C.Cells.sight c.read.new.self in
    let read : Reads cell c.in_ok-word.word old between = search rules in
    let looks = c.has_words.ensures.looks in
    let known = c.range_of-range.ensures.known in
    let some : label ≢ [] = search rules in
    let same = same_words s st c.range_of-range.result cell c.in_ok-word.word known.0 label m (knows_later _ _ _ _ looks.onward known.1)
    (value_later old between s cell c.in_ok-word.word st read looks m) c.range_of-range.ensures.word some in
    let iff = c.has_words.ensures.same known.0 known.1 in
    let slots = same_slots old s (looks_trans _ _ _ read.looks looks) in (
      λ yes. record { within = subst (λ (n : ℕ). c.args.slot < n) (sym slots) c.requires; body = same.0 (iff.0 yes) },
      λ named. iff.1 (same.1 named.body),
    )

pub returns-in_err-word-clause-reads : goal.returns-in_err-word-clause-reads
returns-in_err-word-clause-reads g c = asks_cell c.name_cell.ensures c.read.ensures.reads

pub returns-then-word-eq0-clause-reads : goal.returns-then-word-eq0-clause-reads
returns-then-word-eq0-clause-reads g c = asks_cell c.name_cell.ensures c.read.ensures.reads

pub returns-clause-reads : goal.returns-clause-reads
returns-clause-reads g c = asks_still (asks_cell c.name_cell.ensures c.read.ensures.reads) c.has_words.ensures.reads
