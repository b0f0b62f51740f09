-- What is left to show of `cite`.
use Rattle.std.proofs.Common.{◌≡◌, ◌∙◌, ℕ, List, Bool, Option, Vec, Global, length, drop, sym, ap, subst}
use Rattle.std.specs.Prelude.{IfSome}
use Rattle.std.proofs.lemmas.List.{take_rest}
use Rattle.taking.specs.Walks.{arranged}
use Rattle.sourcewriting.specs.Counting.{IsCountOf}
use Rattle.sourcewriting.specs.Nodes.{AreThere, IsTakenAlike}
use Rattle.sourcewriting.proofs.Stacks.{arguments_there, stack_then}
use Rattle.sourcewriting.proofs.listing.cite.Goals as goal

pub returns-clause-nodes : goal.returns-clause-nodes
returns-clause-nodes g c = λ alike sound there.
    let scope = g.D.Declared.scope c.args.declared.now in
    let s = c.args.shared.now in
    let t = c.node.new.self in
    let cited = c.args.cited in
    let stack = c.args.stack.now.items in
    let kinds = c.in-Some.kinds.items in
    let made = c.in_ok-arguments.arguments.items in
    let first = c.in-Some-checked_sub.first in
    let many : IsCountOf scope cited.kinds (length kinds) =
    subst (λ (o : Option (Vec Bool Global)). IfSome o (λ are. IsCountOf scope cited.kinds (length are.items))) c.in-Some.is
    c.in_ok-kinds.ensures.many in
    let long : length made ≡ length kinds = c.in_ok-arguments.ensures.many ∙ ap length c.as_slice.ensures.value in
    let order : arranged kinds made ≡ drop first stack =
    ap (λ (ks : List Bool). arranged ks made) (sym c.as_slice.ensures.value)
    ∙ c.in_ok-arguments.ensures.order ∙ take_rest c.deref.result.now first ∙ ap (drop first) c.deref.ensures.value in
    let slice = c.as_slice-2.ensures.value in
    let args = subst (AreThere s) (sym slice) (arguments_there s kinds made stack first long order there) in
    let taken = subst (λ (n : ℕ). IsTakenAlike s.words.items cited.label.now n) (sym (ap length slice ∙ long))
    (alike (length kinds) many) in
    let node = c.in_ok-node.ensures.sound args taken sound in (
      node.0,
      stack_then s t stack c.truncate.new.self.items c.push.new.self.items first c.in_ok-node.node c.in_ok-node.ensures.few.1 there node.1
          c.truncate.ensures.items c.in_ok-push.ensures.items,
    )
