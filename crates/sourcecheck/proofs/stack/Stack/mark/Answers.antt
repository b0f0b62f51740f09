-- What is left to show of `mark`.
use Rattle.std.proofs.Common.{◌≡◌, ◌<◌, ◌-◌, ℕ, length, get_or, refl, arith, ap, ◌∙◌}
use Rattle.sourcecheck.proofs.Spans.{seen-mark}
use Rattle.sourcecheck.proofs.stack.Stack.mark.Goals as goal

pub returns : goal.returns
returns c =
    let ps = c.self.inside.spans.items in
    let p = c.index-span.result.now in
    let some : 0 < length ps = omega arith in
    let long : c.len-count.result ≡ length ps = omega arith in
    rw (c.in_ok-push.ensures.items, ← c.self.view_is)
    (record {
      stack = seen-mark c.self.inside.symbols.items ps c.self.inside.marked.items p some
          (c.index-span.ensures ∙ ap (λ (n : ℕ). get_or ps (n - 1) p) long);
      written = refl;
    })
