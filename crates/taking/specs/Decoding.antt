-- While a proof is decoded: for which stack of trees the code's stack of places stands.
use Rattle.std.specs.Prelude.{◌≡◌, ℕ, Bool, true, false, List, [], length, reverse, All, filter_map, slice_get, slice_index_or, Option, Some}
use Rattle.std.specs.Prelude.{None, if◌then◌else◌}
use Rattle.mmtext.specs.Words.{Word}
use Rattle.source.specs.declared.letters.Code.{Code}
use Rattle.source.specs.Letters.{is_absent}
use Rattle.source.specs.Proofs.{Tree, node, over, Stack, step_of, stepped, taken_by, cite, repeat, mark, only}
use Rattle.taking.specs.declared.decoded.DecodedProof.{DecodedProof}
use Rattle.taking.specs.Decoded.{tree_of}
use Rattle.std.specs.Option.{option_and_then}
use Rattle.std.specs.List.{list_any, flat_map}
use Rattle.taking.specs.declared.named.Named.{Named}
use Rattle.taking.specs.declared.decoder.Decoder.{Decoder}
use Rattle.taking.specs.Settings.{Setting, AreNamed}
use Rattle.taking.specs.Nodes.{Shared, trees, AreBelow}
use Rattle.taking.specs.Walks.{TakesAll}
use Rattle.taking.specs.Reasons.{labels_cited}

-- what a label makes of trees
abbrev pub grown : Word → List Tree → Tree
grown w ts = node w (over ts)

-- the trees at places
abbrev pub trees_at : List Word → List Shared → List ℕ → List Tree
trees_at labels ns ks = filter_map (slice_get (trees labels ns)) ks

-- the trees of entries, the last first, and those that are marked
abbrev pub stack_on : List Word → List Shared → List ℕ → List ℕ → Stack Tree
stack_on labels ns entries marked =
    record { entries = trees_at labels ns (reverse entries); marked = trees_at labels ns marked }

abbrev pub stack_of : List Word → Decoder → Stack Tree
stack_of labels d = stack_on labels d.nodes d.entries.items d.marked.items

-- the nodes name just the labels of the trees of the entries: a test passes for one of these just where it passes for what a node names
abbrev pub AreCovered : List Shared → List ℕ → Type 0
AreCovered ns entries =
    (labels : List Word) (test : Word → Bool)
    → list_any test (flat_map labels_cited (trees_at labels ns entries)) ≡ list_any (λ n. test (slice_index_or labels n.named [])) ns

-- each entry is a node, each node takes as much as what it names asks for, and is below an entry
pub record StandsOn (named : List Named) (d : Decoder) : Type 0 where
  pub entries : AreBelow (length d.nodes) d.entries.items
  pub marked : AreBelow (length d.nodes) d.marked.items
  pub whole : All (TakesAll named) d.nodes
  pub covered : AreCovered d.nodes d.entries.items

-- ---- what is done to the stack of trees, wherever labels name what is named, if what it takes is there

-- a label takes its trees
abbrev pub IsCited : List Named → ℕ → Decoder → Decoder → Bool → Type 0
IsCited named place old new there =
    (s : Setting) → AreNamed s named
    → cite grown (slice_index_or s.labels place []) (stack_of s.labels old)
    (taken_by s.earlier s.active (slice_index_or s.labels place []))
    ≡ (if there then Some (stack_of s.labels new) else None)

-- a marked tree stands there again
abbrev pub IsRepeated : ℕ → Decoder → Decoder → Bool → Type 0
IsRepeated number old new there =
    (labels : List Word) → repeat (stack_of labels old) (slice_get (stack_of labels old).marked number)
    ≡ (if there then Some (stack_of labels new) else None)

-- the last tree is marked
abbrev pub IsMarked : Decoder → Decoder → Bool → Type 0
IsMarked old new there =
    (labels : List Word) → mark (stack_of labels old).entries (stack_of labels old).marked
    ≡ (if there then Some (stack_of labels new) else None)

-- a code does its step, if that is there
pub record IsCodeTaken (named : List Named) (code : Code) (old new : Decoder) (there : Bool) : Type 0 where
  pub known : there ≡ true → is_absent code ≡ false
  pub steps : is_absent code ≡ false → (s : Setting) → AreNamed s named
      → stepped grown s.earlier s.active (stack_of s.labels old) (step_of s.labels code)
      ≡ (if there then Some (stack_of s.labels new) else None)

-- the tree that is left alone
abbrev pub IsLeft : Decoder → Option DecodedProof → Type 0
IsLeft d left = (labels : List Word) → only (stack_of labels d).entries ≡ option_and_then (tree_of labels) left
