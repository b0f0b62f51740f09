-- What is left to show of `named`.
use Rattle.std.proofs.Common.{◌∙◌, sym, ap}
use Rattle.std.proofs.lemmas.Option.{slice_get-map}
use Rattle.std.specs.Prelude.{slice_get}
use Rattle.std.specs.Option.{option_map}
use Rattle.taking.specs.Nodes.{Shared}
use Rattle.taking.specs.Views.{seen_node}
use Rattle.taking.proofs.Kept.{node_at}
use Rattle.taking.proofs.nodes.Nodes.named.Goals as goal

pub returns : goal.returns
returns c =
    let ns = c.self.inside.nodes.items in
    let args = c.self.inside.arguments.items in
    let there = node_at args ns c.args.self.now c.args.place c.index.result.now c.self.view_is c.requires c.index.ensures in
    ap (λ ms. option_map (λ (n : Shared). n.named) (slice_get ms c.args.place)) (sym c.self.view_is)
    ∙ ap (option_map (λ (n : Shared). n.named)) (slice_get-map (seen_node args) ns c.args.place ∙ ap (option_map (seen_node args)) there)
