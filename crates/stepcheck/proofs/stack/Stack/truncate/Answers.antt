use Rattle.std.proofs.Common.{◌<◌, length, ap, arith, ◌∙◌}
use Rattle.stepcheck.specs.Spans.{start}
use Rattle.stepcheck.proofs.Spans.{spans-front, cut-front}
use Rattle.stepcheck.proofs.stack.Stack.truncate.Goals as goal

pub invariant_of-self : goal.invariant_of-self
invariant_of-self c =
    let s = c.self.inside.symbols.items in
    let ps = c.self.inside.entries.items in
    let lt : c.args.count < length ps = omega arith in
    let all = spans-front s ps c.args.count c.index.result.now c.self.invariant lt in
    let begins = c.start_of-start.ensures ∙ ap start c.index.ensures in
    rw (c.truncate.ensures.items, c.truncate-then-count-len.ensures.items, begins) all

pub returns-then-count-len : goal.returns-then-count-len
returns-then-count-len c =
    let s = c.self.inside.symbols.items in
    let ps = c.self.inside.entries.items in
    let lt : c.args.count < length ps = omega arith in
    let all = cut-front s ps c.args.count c.index.result.now c.self.invariant lt in
    let begins = c.start_of-start.ensures ∙ ap start c.index.ensures in
    rw (c.truncate.ensures.items, c.truncate-then-count-len.ensures.items, begins, ← c.self.view_is) all
