-- What is left to show of `push_two`.
use Rattle.std.proofs.Common.{◌≡◌, ◌+◌, ◌≤◌, ◌++◌, ◌∷◌, [], length, arith}
use Rattle.std.proofs.lemmas.List.{append_assoc}
use Rattle.stepcheck.specs.declared.stack.Entry.TheVariants.{Own}
use Rattle.stepcheck.proofs.Spans.{cut-push, spans-more, spans-push}
use Rattle.stepcheck.proofs.stack.Stack.push_two.Goals as goal

pub returns : goal.returns
returns c =
    let s = c.self.inside.symbols.items in
    let ps = c.self.inside.entries.items in
    let one = c.args.first ∷ [] in
    let two = c.args.second ∷ [] in
    let pushed = cut-push s (one ++ two) ps c.self.invariant.within in
    let start : c.len-start.result ≡ length s = omega arith in
    let end : c.len-end.result ≡ length s + 2 = omega (arith, c.in_ok-push.ensures.len, c.in_ok-push-2.ensures.len) in
    rw (
      c.in_ok-push-3.ensures.items,
      c.in_ok-push-2.ensures.items,
      c.in_ok-push.ensures.items,
      append_assoc s one two,
      start,
      end,
      ← c.self.view_is,
    )
    pushed

pub invariant_of-self : goal.invariant_of-self
invariant_of-self c = rw c.in_err-push.ensures.items c.self.invariant

pub invariant_of-self-in_err-push-2 : goal.invariant_of-self-in_err-push-2
invariant_of-self-in_err-push-2 c =
    let s = c.self.inside.symbols.items in
    let more : length s ≤ length c.push.new.self.items = omega (arith, c.in_ok-push.ensures.len) in
    rw c.in_err-push-2.ensures.items (spans-more (length s) _ c.self.inside.entries.items more c.self.invariant)

pub invariant_of-self-in_err-push-3 : goal.invariant_of-self-in_err-push-3
invariant_of-self-in_err-push-3 c =
    let s = c.self.inside.symbols.items in
    let more : length s ≤ length c.push-2.new.self.items = omega (arith, c.in_ok-push.ensures.len, c.in_ok-push-2.ensures.len) in
    rw c.in_err-push-3.ensures.items (spans-more (length s) _ c.self.inside.entries.items more c.self.invariant)

pub invariant_of-self-2 : goal.invariant_of-self-2
invariant_of-self-2 c =
    let s = c.self.inside.symbols.items in
    let start : c.len-start.result ≡ length s = omega arith in
    let end : c.len-end.result ≡ length s + 2 = omega (arith, c.in_ok-push.ensures.len, c.in_ok-push-2.ensures.len) in
    let all : c.len-end.result ≡ length c.push-2.new.self.items = omega arith in
    rw c.in_ok-push-3.ensures.items (
    spans-push (length s) _ c.self.inside.entries.items (Own c.len-start.result c.len-end.result) c.self.invariant (omega (arith, start))
    (omega (arith, start, end)) (omega (arith, all))
    )
