use Rattle.std.proofs.Common.{◌*◌, ◌+◌, ◌^◌, ap, ◌∙◌, inr, arith}
use Rattle.cells.specs.State.{State}
use Rattle.cells.specs.Sight.{after}
use Rattle.cells.proofs.Sights.{onward_trans, writes_onward, writes_cell, stages_take, after_writes}
use Rattle.cells.proofs.Bodies.{body_known}
use Rattle.cells.proofs.Staging.{staged_start, staged_len}
use Rattle.cells.proofs.Keeping.{keeps_put}
use Rattle.cells.proofs.Asking.{nothing_written, asks_nothing, asks_after, asks_still}
use Rattle.cells.proofs.Values.{value_there}
use Rattle.cells.proofs.writing.put_body.Goals as goal

pub returns-in_err-read-clause-onward : goal.returns-in_err-read-clause-onward
returns-in_err-read-clause-onward g c = onward_trans _ _ _ c.in_ok-range.ensures.ok.onward c.in_err-read.ensures.err.onward

pub word-requires-clause-start : goal.word-requires-clause-start
word-requires-clause-start g c =
    staged_start _ (g.C.Cells.sight c.stage.new.self)
    (g.met.C.Cells.grounded c.stage.new.self) c.args.words.now c.in_ok-range.range c.in_ok-range.ensures.ok c.requires.some

pub word-requires-clause-len : goal.word-requires-clause-len
word-requires-clause-len g c =
    staged_len _ (g.C.Cells.sight c.stage.new.self)
    (g.met.C.Cells.grounded c.stage.new.self) c.args.words.now c.in_ok-range.range c.in_ok-range.ensures.ok

pub write-requires-clause-named : goal.write-requires-clause-named
write-requires-clause-named g c _ =
    let staged = c.in_ok-range.ensures.ok in
    inr (
      record {
        start = c.in_ok-range.range.start;
        words = c.args.words.now;
      },
      c.in_ok-read.ensures.ok.looks.onward.ranges _ staged.finished,
      c.word.ensures ∙ ap (λ n. c.in_ok-range.range.start * 2 ^ 25 + n) staged.len,
    )

pub returns-clause-onward : goal.returns-clause-onward
returns-clause-onward g c =
    onward_trans _ _ _ c.in_ok-range.ensures.ok.onward
    (onward_trans _ _ _ c.in_ok-read.ensures.ok.looks.onward (writes_onward _ _ _ _ c.write.ensures))

pub returns-clause-ok : goal.returns-clause-ok
returns-clause-ok g c st m =
    let staged = c.in_ok-range.ensures.ok in
    let later = onward_trans _ _ _ c.in_ok-read.ensures.ok.looks.onward (writes_onward _ _ _ _ c.write.ensures) in
    body_known (g.C.Cells.sight c.write.new.self) st m c.in_ok-range.range c.args.cell c.args.words.now
    (record { finished = later.ranges _ staged.finished; len = staged.len })
    (ap (λ (x : State). x.value c.args.cell) (after_writes _ _ _ _ st c.write.ensures)
    ∙ value_there c.args.cell c.word.result (after (g.C.Cells.sight c.read.new.self) st) ∙ c.word.ensures)
    c.requires.some

pub returns-clause-written : goal.returns-clause-written
returns-clause-written g c = writes_cell _ _ _ _ c.write.ensures

pub returns-in_err-read-clause-taken : goal.returns-in_err-read-clause-taken
returns-in_err-read-clause-taken g c =
    let staged = stages_take _ _ _ _ c.in_ok-range.ensures.ok in
    omega (arith, staged, c.in_err-read.ensures.err.taken)

pub returns-clause-taken : goal.returns-clause-taken
returns-clause-taken g c =
    let staged = stages_take _ _ _ _ c.in_ok-range.ensures.ok in
    omega (arith, staged, c.in_ok-read.ensures.ok.looks.taken, c.write.ensures.taken)

pub returns-clause-keeps : goal.returns-clause-keeps
returns-clause-keeps g c =
    keeps_put _ _ (g.C.Cells.sight c.args.cells.now) (g.C.Cells.sight c.read.new.self) (g.C.Cells.sight c.write.new.self)
    (c.in_ok-read.ensures.ok.looks.writes ∙ c.in_ok-range.ensures.ok.writes) c.write.ensures

pub returns-in_err-range-clause-reads : goal.returns-in_err-range-clause-reads
returns-in_err-range-clause-reads g c = asks_nothing c.stage.ensures.reads

pub returns-in_err-read-clause-reads : goal.returns-in_err-read-clause-reads
returns-in_err-read-clause-reads g c = asks_after c.stage.ensures.reads c.read.ensures.reads

pub returns-clause-reads : goal.returns-clause-reads
returns-clause-reads g c =
    asks_after c.stage.ensures.reads
    (asks_still c.read.ensures.reads (nothing_written c.write.ensures))
