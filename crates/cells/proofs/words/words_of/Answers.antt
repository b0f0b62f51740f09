use Rattle.std.proofs.Common.{rules, subst, sym, ap, ◌∙◌, ◌++◌}
use Rattle.cells.specs.Sight.{Reads, after}
use Rattle.cells.specs.Lookups.{AreWordsOf}
use Rattle.cells.proofs.Sights.{looks_trans}
use Rattle.cells.proofs.Asking.{asks_still}
use Rattle.cells.proofs.Bodies.{knows_later, value_later, are_words}
use Rattle.cells.proofs.words.words_of.Goals as goal

pub returns-in_err-load_all-clause-looks : goal.returns-in_err-load_all-clause-looks
returns-in_err-load_all-clause-looks g c =
    let read : Reads c.args.cell c.in_ok-word.word (g.C.Cells.sight c.args.cells.now) (g.C.Cells.sight c.read.new.self) = search rules in
    looks_trans _ _ _ read.looks c.load_all.ensures.looks

pub returns-clause-looks : goal.returns-clause-looks
returns-clause-looks g c =
    let read : Reads c.args.cell c.in_ok-word.word (g.C.Cells.sight c.args.cells.now) (g.C.Cells.sight c.read.new.self) = search rules in
    looks_trans _ _ _ read.looks c.load_all.ensures.looks

pub returns-in_err-load_all-clause-reads : goal.returns-in_err-load_all-clause-reads
returns-in_err-load_all-clause-reads g c = asks_still c.read.ensures.reads c.load_all.ensures.reads

pub returns-clause-reads : goal.returns-clause-reads
returns-clause-reads g c = asks_still c.read.ensures.reads c.load_all.ensures.reads

pub returns-clause-ok : goal.returns-clause-ok
returns-clause-ok g c = λ st m.
    let read : Reads c.args.cell c.in_ok-word.word (g.C.Cells.sight c.args.cells.now) (g.C.Cells.sight c.read.new.self) = search rules in
    let looks = c.load_all.ensures.looks in
    let s = g.C.Cells.sight c.load_all.new.self in
    let known = c.range_of-range.ensures.known in
    let made = c.in_ok-load_all.ensures.ok known.0 known.1 ∙ ap (λ ws. ws ++ known.0) c.new-words.ensures.items in
    subst (AreWordsOf (after s st) c.args.cell) (sym made)
    (are_words s st c.range_of-range.result c.args.cell c.in_ok-word.word known.0 m (knows_later _ _ _ _ looks.onward known.1)
    (value_later _ _ s c.args.cell c.in_ok-word.word st read looks m) c.if-word-eq0.false c.range_of-range.ensures.word)
