-- How many entries what a proof names takes where its text is to stand.
use Rattle.std.specs.Prelude.{◌≡◌, ◌+◌, ◌⊎◌, ℕ, List, length, map, Contains, Some, slice_get}
use Rattle.std.specs.Option.{option_map}
use Rattle.std.specs.Str.{bytes_eq}
use Rattle.std.specs.HashMap.{get_by}
use Rattle.mmtext.specs.Words.{Word}
use Rattle.source.specs.Scopes.{Hypothesis, label_of, Assertion, Scope}
use Rattle.source.specs.Proofs.{taken_by}
use Rattle.source.specs.Views.{seen_words}
use Rattle.sourcewriting.specs.declared.listing.Cited.{Cited}
use Rattle.sourcewriting.specs.declared.listing.Kinds.{Kinds}
use Rattle.sourcewriting.specs.declared.listing.Kinds.TheVariants.{Standing, Added}
use Rattle.sourcewriting.specs.declared.listing.Names.{Names}

-- so many mandatory hypotheses an assertion has: one of the source, or one that is added
abbrev pub IsCountOf : Scope → Kinds → ℕ → Type 0
IsCountOf s (Standing place) n = option_map (λ a. length a.hypotheses) (slice_get s.assertions place) ≡ Some n
IsCountOf s (Added floats premises) n = n ≡ floats + premises

-- the label of an assertion of the library, as proofs cite it, takes so many
pub record IsCitedBy (s : Scope) (m : Names) (label : Word) (n : ℕ) : Type 0 where
  pub name : Word
  pub cited : Cited
  pub found : get_by (λ k. bytes_eq name k.now) m.cited ≡ Some cited
  pub labelled : cited.label.now ≡ label
  pub many : IsCountOf s cited.kinds n

-- that of a hypothesis takes none: of a $f of the library, or a mandatory one of the theorem
pub record IsHypothesis (m : Names) (hypotheses : List Hypothesis) (label : Word) (n : ℕ) : Type 0 where
  pub stands : Contains (seen_words m.floats.items) label ⊎ Contains (map label_of hypotheses) label
  pub none : n ≡ 0

abbrev pub Takes : Scope → Names → List Hypothesis → Word → ℕ → Type 0
Takes s m hypotheses label n = IsCitedBy s m label n ⊎ IsHypothesis m hypotheses label n

-- where a proof is to stand, what each of these labels names takes as many, if it is there
abbrev pub TakeAsMany : (Word → ℕ → Type 0) → List Assertion → List Hypothesis → Type 0
TakeAsMany takes earlier active =
    (label : Word) (n : ℕ) (taken : List Hypothesis) → takes label n → taken_by earlier active label ≡ Some taken → length taken ≡ n
