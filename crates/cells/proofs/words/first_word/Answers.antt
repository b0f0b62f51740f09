use Rattle.std.proofs.Common.{rules, sym, ◌∙◌}
use Rattle.cells.specs.Sight.{Reads, after}
use Rattle.cells.proofs.Sights.{looks_trans}
use Rattle.cells.proofs.Asking.{asks_still}
use Rattle.cells.proofs.Bodies.{no_body, no_first, first_known, knows_later, value_later}
use Rattle.cells.proofs.words.first_word.Goals as goal

pub returns-then-word-eq0-clause-ok : goal.returns-then-word-eq0-clause-ok
returns-then-word-eq0-clause-ok g c = λ st w more m b.
    let new = g.C.Cells.sight c.read.new.self in
    let read : Reads c.args.cell c.in_ok-word.word (g.C.Cells.sight c.args.cells.now) new = search rules in
    absurd (no_body (after new st) c.args.cell _ b (sym (read.value st m) ∙ c.if-word-eq0.true))

pub returns-then-range-eq0-clause-ok : goal.returns-then-range-eq0-clause-ok
returns-then-range-eq0-clause-ok g c = λ st w more m b.
    let new = g.C.Cells.sight c.read.new.self in
    let read : Reads c.args.cell c.in_ok-word.word (g.C.Cells.sight c.args.cells.now) new = search rules in
    let known = c.range_of-range.ensures.known in
    absurd (no_first new st c.range_of-range.result c.args.cell c.in_ok-word.word w known.0 more m known.1
    (read.value st m) c.range_of-range.ensures.word b
    c.if-range-eq0.true)

pub returns-clause-looks : goal.returns-clause-looks
returns-clause-looks g c =
    let read : Reads c.args.cell c.in_ok-word.word (g.C.Cells.sight c.args.cells.now) (g.C.Cells.sight c.read.new.self) = search rules in
    looks_trans _ _ _ read.looks c.load.ensures.looks

pub returns-clause-reads : goal.returns-clause-reads
returns-clause-reads g c = asks_still c.read.ensures.reads c.load.ensures.reads

pub returns-clause-ok : goal.returns-clause-ok
returns-clause-ok g c = λ st w more m b.
    let s = g.C.Cells.sight c.load.new.self in
    let read : Reads c.args.cell c.in_ok-word.word (g.C.Cells.sight c.args.cells.now) (g.C.Cells.sight c.read.new.self) = search rules in
    let looks = c.load.ensures.looks in
    let known = c.range_of-range.ensures.known in
    first_known s st c.range_of-range.result c.args.cell c.in_ok-word.word w c.load.result known.0 more m
    (knows_later _ _ _ _ looks.onward known.1)
    (value_later _ _ s c.args.cell c.in_ok-word.word st read looks m) c.range_of-range.ensures.word b (c.load.ensures.word known.0 known.1)
