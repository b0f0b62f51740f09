use Rattle.std.proofs.Common.{◌≡◌, ◌≤◌, ◌+◌, List, length, sym, ap, ◌∙◌, arith}
use Rattle.mmsyntax.specs.declared.statement.Assertion.{Assertion}
use Rattle.plaincells.specs.Opening.{front}
use Rattle.plaincells.proofs.Opened.{opens_at, opens_none, opens_all}
use Rattle.plaincells.proofs.plain.PlainCells.open.Goals as goal

pub put_next-requires-clause-opened : goal.put_next-requires-clause-opened
put_next-requires-clause-opened c =
    let o = c.loop-index.invariant in
    opens_at (front c.loop-index.index c.args.database.now) c.args.slots c.args.room c.loop-index.cells.slots c.loop-index.cells.room
    c.loop-index.cells
    (sym o.slots_are) (sym o.room_is) o

pub put_next-requires-clause-fits : goal.put_next-requires-clause-fits
put_next-requires-clause-fits c =
    let n = ap (λ (xs : List Assertion). length xs) c.assertions-assertions.ensures.value in
    omega (arith, n, c.if-assertions-slots.false, c.loop-index.invariant.slots_are)

pub loop-index-init : goal.loop-index-init
loop-index-init c =
    let e = c.in_ok-cells.ensures in
    opens_none c.args.database.now c.args.slots c.args.room c.in_ok-cells.cells (e.0 ∙ c.in_ok-copy.ensures
    ∙ c.prelude.ensures) e.1 e.2 e.3 e.6 e.5

pub loop-index-preserved : goal.loop-index-preserved
loop-index-preserved c =
    let o = c.loop-index.invariant in
    opens_at (front (c.loop-index.index + 1) c.args.database.now) c.loop-index.cells.slots c.loop-index.cells.room c.args.slots c.args.room
    c.put_next.new.cells o.slots_are o.room_is c.in_ok-put_next.ensures

pub returns-clause-ok : goal.returns-clause-ok
returns-clause-ok c =
    let n = ap (λ (xs : List Assertion). length xs) c.assertions-assertions.ensures.value in
    let low : c.loop-index.index ≤ length c.assertions-assertions.result.now = c.loop-index.auto.index-end in
    let whole : length c.args.database.now.assertions ≡ c.loop-index.index = omega (arith, n, low, c.loop-index-test.false) in
    opens_all c.args.database.now c.args.slots c.args.room c.loop-index.index c.loop-index.cells whole c.loop-index.invariant
