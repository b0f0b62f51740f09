-- How contracts see the nodes that the code keeps, and what these keep.
use Rattle.std.specs.Prelude.{◌≡◌, ◌≤◌, ℕ, suc, List, length, map, All, filter_map, slice_get, slice_range, Some}
use Rattle.source.specs.Proofs.{total}
use Rattle.taking.specs.declared.nodes.Node.{Node}
use Rattle.taking.specs.Nodes.{Shared, AreBelow, sizes, counted}

-- a node, where these are all arguments
abbrev pub seen_node : List ℕ → Node → Shared
seen_node arguments n = record { named = n.named; arguments = slice_range arguments n.begin n.end }

abbrev pub seen_nodes : List ℕ → List Node → List Shared
seen_nodes arguments ns = map (seen_node arguments) ns

-- the arguments of each node are there and stand before it, and sizes are those of the trees
pub record AreSound (arguments : List ℕ) (ns : List Node) : Type 0 where
  pub within : All (λ n. (n.begin ≤ n.end) × (n.end ≤ length arguments)) ns
  pub below : (k : ℕ) (n : Node) → slice_get ns k ≡ Some n → AreBelow k (slice_range arguments n.begin n.end)
  pub sizes_are : map (λ n. n.size) ns ≡ map counted (sizes (seen_nodes arguments ns))

-- how many steps list a node over these
abbrev pub size_over : List Shared → List ℕ → ℕ
size_over nodes arguments = counted (suc (total (filter_map (slice_get (sizes nodes)) arguments)))
