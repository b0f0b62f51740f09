-- The nodes of a proof, in which a marked subproof stands once: for which trees they stand, and how many steps list each.
use Rattle.std.specs.Prelude.{◌<◌, ℕ, suc, min, List, [], ◌∷◌, ◌++◌, All, filter_map, slice_get, slice_index_or}
use Rattle.mmtext.specs.Words.{Word}
use Rattle.source.specs.Proofs.{Tree, node, over, total}

-- ---- nodes

-- a node names what has a number, and takes the nodes at earlier places
pub record Shared : Type 0 where
  pub named : ℕ
  pub arguments : List ℕ

-- what nodes make behind others, each from what its arguments make
abbrev pub values_behind : {A : Type 0} → (ℕ → List A → A) → List A → List Shared → List A
values_behind make front [] = front
values_behind make front (n ∷ ns) =
    values_behind make (front ++ make n.named (filter_map (slice_get front) n.arguments) ∷ []) ns

-- what each node makes
unfoldable pub values : {A : Type 0} → (ℕ → List A → A) → List Shared → List A
values make ns = values_behind make [] ns

-- ---- trees

-- the tree of each node, where numbers count labels
abbrev pub trees : List Word → List Shared → List Tree
trees labels ns = values (λ n ts. node (slice_index_or labels n []) (over ts)) ns

-- how many steps list the tree of each node
abbrev pub sizes : List Shared → List ℕ
sizes ns = values (λ n ks. suc (total ks)) ns

-- a number that isn't told beyond 16,385: a listing has 16,384 steps at most (a rule of the profile)
abbrev pub counted : ℕ → ℕ
counted n = min 16385 n

-- each argument of a node stands before it
abbrev pub AreBelow : ℕ → List ℕ → Type 0
AreBelow place arguments = All (λ k. k < place) arguments
