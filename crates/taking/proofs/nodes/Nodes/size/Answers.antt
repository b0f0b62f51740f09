-- What is left to show of `size`.
use Rattle.std.proofs.Common.{◌∙◌, sym, ap}
use Rattle.std.specs.Prelude.{slice_get}
use Rattle.std.specs.Option.{option_map}
use Rattle.taking.specs.Nodes.{sizes, counted}
use Rattle.taking.specs.Views.{seen_nodes}
use Rattle.taking.proofs.Kept.{node_at, size_kept}
use Rattle.taking.proofs.nodes.Nodes.size.Goals as goal

pub returns : goal.returns
returns c =
    let ns = c.self.inside.nodes.items in
    let args = c.self.inside.arguments.items in
    ap (λ ms. option_map counted (slice_get (sizes ms) c.args.place)) (sym c.self.view_is)
    ∙ size_kept ns (sizes (seen_nodes args ns)) c.args.place c.index.result.now c.self.invariant.sizes_are
    (node_at args ns c.args.self.now c.args.place c.index.result.now c.self.view_is c.requires c.index.ensures)
