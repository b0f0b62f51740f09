-- What stands for a proof once it is decoded.
use Rattle.std.specs.Prelude.{◌≡◌, Bool, List, [], map, slice_get, slice_index_or, Option, None, if◌then◌else◌}
use Rattle.std.specs.List.{list_any}
use Rattle.std.specs.Option.{option_and_then}
use Rattle.mmtext.specs.Words.{Word}
use Rattle.source.specs.declared.letters.Code.{Code}
use Rattle.source.specs.Letters.{is_absent}
use Rattle.source.specs.Proofs.{Tree, step_of, denoted_by}
use Rattle.taking.specs.declared.named.Named.{Named}
use Rattle.taking.specs.declared.decoded.DecodedProof.{DecodedProof}
use Rattle.taking.specs.Settings.{Setting, AreNamed}
use Rattle.taking.specs.Nodes.{Shared, trees}
use Rattle.taking.specs.Reasons.{labels_cited}

-- the tree of a decoded proof
abbrev pub tree_of : List Word → DecodedProof → Option Tree
tree_of labels d = slice_get (trees labels d.nodes) d.root

-- codes are decoded: wherever labels name what is named, the proof that was made stands for the tree that the codes denote, and none was
-- made where they denote none, or a step isn't there
abbrev pub AreDecoded : List Named → List Code → Option DecodedProof → Type 0
AreDecoded named codes made =
    (s : Setting) → AreNamed s named
    → (if list_any is_absent codes then None else denoted_by s.earlier s.active (map (step_of s.labels) codes))
    ≡ option_and_then (tree_of s.labels) made

-- the nodes name just the labels of a tree: a test passes for one of these just where it passes for what one of the nodes names
abbrev pub AreLabelsOf : List Word → List Shared → Tree → Type 0
AreLabelsOf labels nodes t = (test : Word → Bool)
    → list_any test (labels_cited t) ≡ list_any (λ n. test (slice_index_or labels n.named [])) nodes
