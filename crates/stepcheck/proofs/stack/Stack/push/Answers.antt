use Rattle.std.proofs.Common.{◌≡◌, ◌+◌, ◌≤◌, length, arith}
use Rattle.stepcheck.specs.declared.stack.Entry.TheVariants.{Own}
use Rattle.stepcheck.proofs.Spans.{cut-push, spans-more, spans-push}
use Rattle.stepcheck.proofs.stack.Stack.push.Goals as goal
use Rattle.stepcheck.proofs.stack.Stack.push.Goals.{in-Ok, in-Err}

pub returns-clause-value : goal.returns-clause-value
returns-clause-value c =
    let s = c.self.inside.symbols.items in
    let ps = c.self.inside.entries.items in
    let one = cut-push s c.args.expression.now ps c.self.invariant.within in
    let start : c.len-start.result ≡ length s = omega arith in
    let end : c.len-end.result ≡ length s + length c.args.expression.now = omega (arith, c.in_ok-extend_from_slice.ensures.len) in
    elim c.match-push.branch [
      | in-Ok w ↦
          rw (w.result-is, w.in-Ok.ensures.items, c.in_ok-extend_from_slice.ensures.items, start, end, ← c.self.view_is) one
      | in-Err w ↦ rw w.result-is tt
    ]

pub invariant_of-self : goal.invariant_of-self
invariant_of-self c = rw c.in_err-extend_from_slice.ensures.items c.self.invariant

pub invariant_of-self-2 : goal.invariant_of-self-2
invariant_of-self-2 c =
    let s = c.self.inside.symbols.items in
    let more : length s ≤ length c.extend_from_slice.new.self.items = omega (arith, c.in_ok-extend_from_slice.ensures.len) in
    let start : c.len-start.result ≡ length s = omega arith in
    let end : c.len-end.result ≡ length s + length c.args.expression.now = omega (arith, c.in_ok-extend_from_slice.ensures.len) in
    let all : c.len-end.result ≡ length c.extend_from_slice.new.self.items = omega arith in
    elim c.match-push.branch [
      | in-Ok w ↦ rw w.in-Ok.ensures.items (
          spans-push (length s) _ c.self.inside.entries.items (Own c.len-start.result c.len-end.result) c.self.invariant
          (omega (arith, start)) (omega (arith, start, end)) (omega (arith, all))
          )
      | in-Err w ↦ rw w.in-Err.ensures.items (spans-more (length s) _ c.self.inside.entries.items more c.self.invariant)
    ]
