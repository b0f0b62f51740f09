-- What is left to show of `push`.
use Rattle.std.proofs.Common.{◌≡◌, ◌+◌, length, arith}
use Rattle.std.proofs.lemmas.List.{length-append}
use Rattle.sourcecheck.proofs.Spans.{seen-push}
use Rattle.sourcecheck.proofs.stack.Stack.push.Goals as goal

pub returns : goal.returns
returns c =
    let s = c.self.inside.symbols.items in
    let e = c.args.expression.now in
    let one = seen-push s e c.self.inside.spans.items c.self.inside.marked.items c.self.invariant.0 c.self.invariant.1 in
    let start : c.len-start.result ≡ length s = omega arith in
    let end : c.len-end.result ≡ length s + length e = omega (arith, c.in_ok-extend_from_slice.ensures.len) in
    rw (c.in_ok-push.ensures.items, c.in_ok-extend_from_slice.ensures.items, start, end, ← c.self.view_is)
    (record { stack = one; written = length-append s e })
