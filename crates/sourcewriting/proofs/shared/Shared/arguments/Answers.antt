-- What is left to show of `arguments`.
use Rattle.std.proofs.Common.{◌≡◌, ◌∙◌, ◌≤◌, List, ℕ, length, sym, ap, subst}
use Rattle.std.specs.Prelude.{slice_get, slice_range, None}
use Rattle.std.specs.Borrow.{Bor}
use Rattle.std.specs.Option.{option_map}
use Rattle.source.proofs.Lent.{got_lent}
use Rattle.sourcewriting.specs.declared.shared.Node.{Node}
use Rattle.sourcewriting.specs.Nodes.{in_node}
use Rattle.sourcewriting.proofs.Nodes.{arguments_at, lent_range}
use Rattle.sourcewriting.proofs.shared.Shared.arguments.Goals as goal

pub returns-in-Some-clause-are : goal.returns-in-Some-clause-are
returns-in-Some-clause-are c = λ sound.
    let s = c.args.self.now in
    let d = c.in-Some.there.now in
    let at = ap (λ ns. slice_get ns c.args.node) (sym c.deref.ensures.value)
    ∙ sym (got_lent c.deref.result.now c.args.node c.get.result c.get.ensures.lookup)
    ∙ ap (option_map (λ (d : Bor Node). d.now)) c.in-Some.is in
    let is = sound.each c.args.node d at in
    let within = subst (λ (xs : List ℕ). d.end ≤ length xs) (sym c.deref-in-Some.ensures.value) is.within in
    ap (λ (x : Bor (List ℕ)). x.now) c.unwrap_or.ensures
    ∙ lent_range c.deref-in-Some.result.now d.begin d.end c.get-in-Some.result _ c.get-in-Some.ensures.lookup.0 is.order within
    ∙ ap (λ (xs : List ℕ). slice_range xs d.begin d.end) c.deref-in-Some.ensures.value
    ∙ sym (arguments_at s c.args.node d at)

pub returns-in-None-clause-are : goal.returns-in-None-clause-are
returns-in-None-clause-are c = λ sound.
    let s = c.args.self.now in
    let at : slice_get s.nodes.items c.args.node ≡ None = ap (λ ns. slice_get ns c.args.node) (sym c.deref.ensures.value)
    ∙ sym (got_lent c.deref.result.now c.args.node c.get.result c.get.ensures.lookup)
    ∙ ap (option_map (λ (d : Bor Node). d.now)) c.in-None.is in
    sym (ap (in_node s) at)
