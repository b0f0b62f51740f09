use Rattle.std.proofs.Common.{rules, ◌≢◌, ◌<◌, ℕ, [], length, sym, subst, ◌∙◌, inl, inr}
use Rattle.cells.specs.Slots.{name_cell}
use Rattle.cells.specs.Sight.{Reads}
use Rattle.std.proofs.lemmas.Bool.{eqb-true}
use Rattle.std.proofs.lemmas.List.{nil_from_length}
use Rattle.cells.proofs.Sights.{looks_trans}
use Rattle.cells.proofs.Asking.{asks_cell, asks_still}
use Rattle.cells.proofs.Settings.{same_slots, small_slot}
use Rattle.cells.proofs.Bodies.{value_later, knows_later}
use Rattle.cells.proofs.Clashing.{empty_free, unnamed_free, words_taken, words_clashing, words_free}
use Rattle.cells.proofs.labels.availability_at.Goals.{then-word-eq0-via-then-word-eq0, then-word-eq0-via-else-word-eq0+then-is_empty}
use Rattle.cells.proofs.labels.availability_at.Goals as goal

pub name_cell-requires : goal.name_cell-requires
name_cell-requires g c = small_slot _ (g.met.C.Cells.grounded c.args.cells.now) c.args.slot c.requires

pub returns-in_err-word-clause-reads : goal.returns-in_err-word-clause-reads
returns-in_err-word-clause-reads g c = asks_cell c.name_cell.ensures c.read.ensures.reads

pub returns-then-word-eq0-clause-ok : goal.returns-then-word-eq0-clause-ok
returns-then-word-eq0-clause-ok g c = λ st m.
    let cell = name_cell c.args.slot in
    let old = g.C.Cells.sight c.args.cells.now in
    let s = g.C.Cells.sight c.read.new.self in
    let read : Reads cell c.in_ok-word.word old s = search rules in
    elim c.then-word-eq0.branch [
      | then-word-eq0-via-then-word-eq0 w ↦
          unnamed_free c.args.own.now c.args.label.now _ _ c.args.slot (sym (read.value st m) ∙ w.if-word-eq0.true)
      | then-word-eq0-via-else-word-eq0+then-is_empty w ↦
          empty_free c.args.own.now c.args.label.now _ _ c.args.slot
          (nil_from_length c.args.label.now (eqb-true (length c.args.label.now) 0 (sym w.is_empty.ensures ∙ w.if-is_empty.true)))
    ]

pub returns-then-word-eq0-clause-reads : goal.returns-then-word-eq0-clause-reads
returns-then-word-eq0-clause-reads g c = asks_cell c.name_cell.ensures c.read.ensures.reads

pub returns-then-has_words-clause-looks : goal.returns-then-has_words-clause-looks
returns-then-has_words-clause-looks g c = looks_trans _ _ _ c.in_ok-word.ensures.ok.looks c.has_words.ensures.looks

pub returns-then-has_words-clause-ok : goal.returns-then-has_words-clause-ok
returns-then-has_words-clause-ok g c = λ st m.
    let old = g.C.Cells.sight c.args.cells.now in
    let between = g.C.Cells.sight c.read.new.self in
    let s = g.C.Cells.sight c.has_words.new.cells in
    let cell = name_cell c.args.slot in
    let read : Reads cell c.in_ok-word.word old between = search rules in
    let looks = c.has_words.ensures.looks in
    let known = c.range_of-range.ensures.known in
    let some : c.args.label.now ≢ [] = search rules in
    let slots = same_slots old s (looks_trans _ _ _ read.looks looks) in
    let iff = c.has_words.ensures.same known.0 known.1 in
    words_taken s st m c.range_of-range.result c.args.slot c.in_ok-word.word known.0 c.args.own.now c.args.label.now
    (knows_later _ _ _ _ looks.onward known.1)
    (value_later old between s cell c.in_ok-word.word st read looks m) c.range_of-range.ensures.word
    (subst (λ (n : ℕ). c.args.slot < n) (sym slots) c.requires) some (iff.0 c.if-has_words.true)

pub returns-then-has_words-clause-reads : goal.returns-then-has_words-clause-reads
returns-then-has_words-clause-reads g c = asks_still (asks_cell c.name_cell.ensures c.read.ensures.reads) c.has_words.ensures.reads

pub clashes-requires : goal.clashes-requires
clashes-requires g c =
    let known = c.range_of-range.ensures.known in
    (known.0, knows_later _ _ _ _ c.has_words.ensures.looks.onward known.1)

pub returns-then-not-clashes-clause-looks : goal.returns-then-not-clashes-clause-looks
returns-then-not-clashes-clause-looks g c =
    looks_trans _ _ _ c.in_ok-word.ensures.ok.looks (looks_trans _ _ _ c.has_words.ensures.looks c.clashes.ensures.looks)

pub returns-then-not-clashes-clause-ok : goal.returns-then-not-clashes-clause-ok
returns-then-not-clashes-clause-ok g c = λ st m.
    let old = g.C.Cells.sight c.args.cells.now in
    let between = g.C.Cells.sight c.read.new.self in
    let s = g.C.Cells.sight c.clashes.new.cells in
    let cell = name_cell c.args.slot in
    let read : Reads cell c.in_ok-word.word old between = search rules in
    let looks = looks_trans _ _ _ c.has_words.ensures.looks c.clashes.ensures.looks in
    let known = c.range_of-range.ensures.known in
    let later = knows_later _ _ _ _ c.has_words.ensures.looks.onward known.1 in
    let iff = c.has_words.ensures.same known.0 known.1 in
    words_free s st m c.range_of-range.result c.args.slot c.in_ok-word.word known.0 c.args.own.now c.args.label.now
    (knows_later _ _ _ _ looks.onward known.1)
    (value_later old between s cell c.in_ok-word.word st read looks m) c.range_of-range.ensures.word
    (λ e. let yes = iff.1 e in let no = c.if-has_words.false in absurd cc)
    (inl (sym (c.clashes.ensures.same known.0 later) ∙ c.if-not-clashes.true))

pub returns-then-not-clashes-clause-reads : goal.returns-then-not-clashes-clause-reads
returns-then-not-clashes-clause-reads g c =
    asks_still (asks_still (asks_cell c.name_cell.ensures c.read.ensures.reads) c.has_words.ensures.reads) c.clashes.ensures.reads

pub has_words-requires-2 : goal.has_words-requires-2
has_words-requires-2 g c =
    let known = c.range_of-range.ensures.known in
    let looks = looks_trans _ _ _ c.has_words.ensures.looks c.clashes.ensures.looks in
    (known.0, knows_later _ _ _ _ looks.onward known.1)

pub returns-then-has_words-2-clause-looks : goal.returns-then-has_words-2-clause-looks
returns-then-has_words-2-clause-looks g c =
    looks_trans _ _ _ c.in_ok-word.ensures.ok.looks
    (looks_trans _ _ _ c.has_words.ensures.looks (looks_trans _ _ _ c.clashes.ensures.looks c.has_words-2.ensures.looks))

pub returns-then-has_words-2-clause-ok : goal.returns-then-has_words-2-clause-ok
returns-then-has_words-2-clause-ok g c = λ st m.
    let old = g.C.Cells.sight c.args.cells.now in
    let between = g.C.Cells.sight c.read.new.self in
    let s = g.C.Cells.sight c.has_words-2.new.cells in
    let cell = name_cell c.args.slot in
    let read : Reads cell c.in_ok-word.word old between = search rules in
    let first = looks_trans _ _ _ c.has_words.ensures.looks c.clashes.ensures.looks in
    let looks = looks_trans _ _ _ first c.has_words-2.ensures.looks in
    let known = c.range_of-range.ensures.known in
    let iff = c.has_words.ensures.same known.0 known.1 in
    let own = c.has_words-2.ensures.same known.0 (knows_later _ _ _ _ first.onward known.1) in
    words_free s st m c.range_of-range.result c.args.slot c.in_ok-word.word known.0 c.args.own.now c.args.label.now
    (knows_later _ _ _ _ looks.onward known.1)
    (value_later old between s cell c.in_ok-word.word st read looks m) c.range_of-range.ensures.word
    (λ e. let yes = iff.1 e in let no = c.if-has_words.false in absurd cc)
    (inr (own.0 c.if-has_words-2.true))

pub returns-then-has_words-2-clause-reads : goal.returns-then-has_words-2-clause-reads
returns-then-has_words-2-clause-reads g c =
    asks_still
    (asks_still (asks_still (asks_cell c.name_cell.ensures c.read.ensures.reads) c.has_words.ensures.reads) c.clashes.ensures.reads)
    c.has_words-2.ensures.reads

pub returns-clause-looks : goal.returns-clause-looks
returns-clause-looks g c =
    looks_trans _ _ _ c.in_ok-word.ensures.ok.looks
    (looks_trans _ _ _ c.has_words.ensures.looks (looks_trans _ _ _ c.clashes.ensures.looks c.has_words-2.ensures.looks))

pub returns-clause-ok : goal.returns-clause-ok
returns-clause-ok g c = λ st m.
    let old = g.C.Cells.sight c.args.cells.now in
    let between = g.C.Cells.sight c.read.new.self in
    let s = g.C.Cells.sight c.has_words-2.new.cells in
    let cell = name_cell c.args.slot in
    let read : Reads cell c.in_ok-word.word old between = search rules in
    let first = looks_trans _ _ _ c.has_words.ensures.looks c.clashes.ensures.looks in
    let looks = looks_trans _ _ _ first c.has_words-2.ensures.looks in
    let known = c.range_of-range.ensures.known in
    let slots = same_slots old s (looks_trans _ _ _ read.looks looks) in
    let own = c.has_words-2.ensures.same known.0 (knows_later _ _ _ _ first.onward known.1) in
    words_clashing s st m c.range_of-range.result c.args.slot c.in_ok-word.word known.0 c.args.own.now c.args.label.now
    (knows_later _ _ _ _ looks.onward known.1)
    (value_later old between s cell c.in_ok-word.word st read looks m) c.range_of-range.ensures.word
    (subst (λ (n : ℕ). c.args.slot < n) (sym slots) c.requires)
    (sym (c.clashes.ensures.same known.0 (knows_later _ _ _ _ c.has_words.ensures.looks.onward known.1)) ∙ c.if-not-clashes.false)
    (λ e. let yes = own.1 e in let no = c.if-has_words-2.false in absurd cc)

pub returns-clause-reads : goal.returns-clause-reads
returns-clause-reads g c =
    asks_still
    (asks_still (asks_still (asks_cell c.name_cell.ensures c.read.ensures.reads) c.has_words.ensures.reads) c.clashes.ensures.reads)
    c.has_words-2.ensures.reads
