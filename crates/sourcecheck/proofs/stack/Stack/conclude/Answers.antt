-- What is left to show of `conclude`.
use Rattle.std.proofs.Common.{◌≡◌, ◌≤◌, ◌-◌, ◌+◌, ◌++◌, ◌∙◌, length, take, drop, arith, ap, rules}
use Rattle.std.specs.Prelude.{reverse}
use Rattle.std.proofs.lemmas.List.{length-append}
use Rattle.std.proofs.lemmas.Result.{err_from_is_err_and}
use Rattle.mmsyntax.proofs.Options.{at_any_result}
use Rattle.sourcecheck.specs.Spans.{cut}
use Rattle.sourcecheck.specs.Coded.{filled}
use Rattle.sourcecheck.proofs.Spans.{seen-conclude, reversed-long, last-cut}
use Rattle.sourcecheck.proofs.stack.Stack.conclude.Goals as goal
use Rattle.sourcecheck.proofs.stack.Stack.conclude.Goals.{in-Ok, in-Err}

pub returns-in_err-fill-clause-kinds : goal.returns-in_err-fill-clause-kinds
returns-in_err-fill-clause-kinds c =
    let s = c.self.inside.symbols.items in
    let ps = c.self.inside.spans.items in
    let long = reversed-long s ps c.args.self.now.stack.entries (ap (λ v. v.stack.entries) c.self.view_is) in
    let le : c.args.count ≤ length ps = omega (arith, long, c.requires) in
    let base : c.len.result - c.args.count ≡ length ps - c.args.count = search rules in
    let p = err_from_is_err_and c.from_residual.result c.from_residual.ensures.1 in
    let last = last-cut s ps c.args.count le in
    let kinds = rw (c.split_at.ensures.back, c.as_slice.ensures.value, base, last) at c.in_err-fill.ensures.kinds in
    rw (p.1, p.2, ← c.self.view_is) kinds

pub returns-clause-stack : goal.returns-clause-stack
returns-clause-stack c =
    let s = c.self.inside.symbols.items in
    let ps = c.self.inside.spans.items in
    let long = reversed-long s ps c.args.self.now.stack.entries (ap (λ v. v.stack.entries) c.self.view_is) in
    let le : c.args.count ≤ length ps = omega (arith, long, c.requires) in
    let base : c.len.result - c.args.count ≡ length ps - c.args.count = search rules in
    let made : c.fill.new.symbols.items ≡ s ++ filled (cut s (drop (length ps - c.args.count) ps)) c.args.pieces.now =
    rw (c.split_at.ensures.back, c.as_slice.ensures.value, base) at c.in_ok-fill.ensures.made in
    let one = seen-conclude s c.fill.new.symbols.items ps c.self.inside.marked.items c.args.pieces.now c.args.count
    c.self.invariant.0 c.self.invariant.1 le made in
    let start : c.len-start.result ≡ length s = omega arith in
    let end : c.len-end.result ≡ length c.fill.new.symbols.items = omega arith in
    elim c.match-push.branch [
      | in-Ok w ↦ rw (w.result-is, w.in-Ok.ensures.items, c.truncate.ensures.items, base, start, end, ← c.self.view_is) one
      | in-Err w ↦ rw w.result-is tt
    ]

pub returns-clause-written : goal.returns-clause-written
returns-clause-written c =
    let s = c.self.inside.symbols.items in
    let ps = c.self.inside.spans.items in
    let long = reversed-long s ps c.args.self.now.stack.entries (ap (λ v. v.stack.entries) c.self.view_is) in
    let le : c.args.count ≤ length ps = omega (arith, long, c.requires) in
    let base : c.len.result - c.args.count ≡ length ps - c.args.count = search rules in
    let made : c.fill.new.symbols.items ≡ s ++ filled (reverse (take c.args.count (reverse (cut s ps)))) c.args.pieces.now =
    rw (c.split_at.ensures.back, c.as_slice.ensures.value, base, last-cut s ps c.args.count le) at c.in_ok-fill.ensures.made in
    let size : length c.fill.new.symbols.items
    ≡ length s + length (filled (reverse (take c.args.count (reverse (cut s ps)))) c.args.pieces.now) =
    ap length made ∙ length-append s (filled (reverse (take c.args.count (reverse (cut s ps)))) c.args.pieces.now) in
    at_any_result c.match-push.result (rw (← c.self.view_is) size)
