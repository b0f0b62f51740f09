-- What is left to show of `arguments`.
use Rattle.std.proofs.Common.{◌∙◌, ◌-◌, sym, ap, subst, take, drop, ℕ, List}
use Rattle.std.proofs.lemmas.Option.{slice_get-map}
use Rattle.std.specs.Prelude.{slice_get, Some}
use Rattle.std.specs.Option.{option_map}
use Rattle.taking.specs.Nodes.{Shared, AreBelow}
use Rattle.taking.specs.Views.{seen_node}
use Rattle.taking.proofs.Kept.{node_at}
use Rattle.taking.proofs.nodes.Nodes.arguments.Goals as goal

pub returns-clause-value : goal.returns-clause-value
returns-clause-value c =
    let ns = c.self.inside.nodes.items in
    let seen = seen_node c.self.inside.arguments.items in
    let x = c.index-node.result.now in
    let there = node_at c.self.inside.arguments.items ns c.args.self.now c.args.place x c.self.view_is c.requires c.index-node.ensures in
    ap (λ ms. option_map (λ (n : Shared). n.arguments) (slice_get ms c.args.place)) (sym c.self.view_is)
    ∙ ap (option_map (λ (n : Shared). n.arguments)) (slice_get-map seen ns c.args.place ∙ ap (option_map seen) there)
    ∙ ap (λ xs. Some (take (x.end - x.begin) (drop x.begin xs))) (sym c.deref.ensures.value)

pub returns-clause-below : goal.returns-clause-below
returns-clause-below c =
    let ns = c.self.inside.nodes.items in
    let args = c.self.inside.arguments.items in
    let x = c.index-node.result.now in
    let there = node_at args ns c.args.self.now c.args.place x c.self.view_is c.requires c.index-node.ensures in
    subst (λ (xs : List ℕ). AreBelow c.args.place (take (x.end - x.begin) (drop x.begin xs))) (sym c.deref.ensures.value)
    (c.self.invariant.below c.args.place x there)
