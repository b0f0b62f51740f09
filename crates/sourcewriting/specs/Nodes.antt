-- Of the code's inside, apart from the rules: the nodes of a proof, each of which stands once.
use Rattle.std.specs.Prelude.{◌≡◌, ◌<◌, ◌≤◌, ◌+◌, ℕ, List, [], ◌∷◌, length, slice_range, slice_get, Contains, All, Option, Some, None}
use Rattle.std.specs.Str.{bytes_eq}
use Rattle.std.specs.HashMap.{get_by}
use Rattle.mmtext.specs.Words.{Word}
use Rattle.sourcewriting.specs.declared.shared.CountedLabel.{CountedLabel}
use Rattle.sourcewriting.specs.declared.shared.Node.{Node}
use Rattle.sourcewriting.specs.declared.shared.Shared.{Shared}

abbrev pub arguments_of : Shared → Node → List ℕ
arguments_of s d = slice_range s.arguments.items d.begin d.end

-- none where there is no such node
abbrev pub in_node : Shared → Option Node → List ℕ
in_node s None = []
in_node s (Some d) = arguments_of s d

abbrev pub arguments_in : Shared → ℕ → List ℕ
arguments_in s n = in_node s (slice_get s.nodes.items n)

-- a node of this number is behind its arguments, of which there are as many as its label takes; and it is found by these
pub record IsNode (s : Shared) (n : ℕ) (d : Node) : Type 0 where
  pub order : d.begin ≤ d.end
  pub within : d.end ≤ length s.arguments.items
  pub below : All (λ a. a < n) (arguments_of s d)
  pub label : CountedLabel
  pub named : slice_get s.words.items d.word ≡ Some label
  pub numbered : get_by (λ k. bytes_eq label.label.now k.now) s.numbers ≡ Some d.word
  pub many : length (arguments_of s d) ≡ label.takes
  pub found : get_by (λ k. bytes_eq (d.word ∷ arguments_of s d) k.items) s.places ≡ Some n

-- what numbers and nodes are found is there
pub record AreNodes (s : Shared) : Type 0 where
  pub each : (n : ℕ) (d : Node) → slice_get s.nodes.items n ≡ Some d → IsNode s n d
  pub labelled : (w : Word) (k : ℕ) → get_by (λ x. bytes_eq w x.now) s.numbers ≡ Some k
      → (c : CountedLabel) × (slice_get s.words.items k ≡ Some c) × (c.label.now ≡ w)
  pub there : (key : List ℕ) (n : ℕ) → get_by (λ k. bytes_eq key k.items) s.places ≡ Some n → n < length s.nodes.items

-- a label takes as many entries as it did
abbrev pub IsTakenAlike : List CountedLabel → Word → ℕ → Type 0
IsTakenAlike cs label takes = (c : CountedLabel) → Contains cs c → c.label.now ≡ label → c.takes ≡ takes

-- a label has this number, and takes so many entries
pub record IsNumbered (s : Shared) (w : Word) (takes number : ℕ) : Type 0 where
  pub label : CountedLabel
  pub named : slice_get s.words.items number ≡ Some label
  pub labelled : label.label.now ≡ w
  pub many : label.takes ≡ takes
  pub found : get_by (λ k. bytes_eq w k.now) s.numbers ≡ Some number

-- the nodes on a stack are there
abbrev pub AreThere : Shared → List ℕ → Type 0
AreThere s stack = All (λ a. a < length s.nodes.items) stack

-- no more than so many labels and nodes more
pub record AreFew (n : ℕ) (old new : Shared) : Type 0 where
  pub words : length new.words.items ≤ length old.words.items + n
  pub nodes : length new.nodes.items ≤ length old.nodes.items + n
