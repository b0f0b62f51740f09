-- Of the code's inside, apart from the rules: how many entries the labels of a proof take while its nodes are made and put.
use Rattle.std.specs.Prelude.{◌≡◌, ◌⊎◌, ℕ, List, ◌++◌, map, All, Contains, Option, Some, None}
use Rattle.std.specs.List.{flat_map}
use Rattle.std.specs.Prelude.{IsTrue}
use Rattle.std.specs.Borrow.{Bor}
use Rattle.mmtext.specs.Words.{Word}
use Rattle.source.specs.Scopes.{Hypothesis, label_of, Scope}
use Rattle.source.specs.Views.{seen_words}
use Rattle.taking.specs.Listings.{premise_labels}
use Rattle.sourcewriting.specs.declared.listing.Cited.{Cited}
use Rattle.sourcewriting.specs.declared.listing.Names.{Names}
use Rattle.sourcewriting.specs.declared.proving.Hypotheses.{Hypotheses}
use Rattle.sourcewriting.specs.declared.shared.CountedLabel.{CountedLabel}
use Rattle.sourcewriting.specs.declared.shared.Shared.{Shared}
use Rattle.sourcewriting.specs.Counting.{IsCountOf, Takes}
use Rattle.sourcewriting.specs.Reading.{counts_of, labels_in, HaveOneMore, AreMarkedLetters}
use Rattle.sourcewriting.specs.Laid.{IsLaidOutAs}
use Rattle.sourcewriting.specs.Lines.{are_cut, columns_then, parenthesized}

-- the labels that nodes name do
abbrev pub AllTake : Scope → Names → List Hypothesis → Shared → Type 0
AllTake s m hypotheses shared = All (λ p. Takes s m hypotheses p.0 p.1) (counts_of shared.words.items)

-- the label of an assertion is one more, or they are as they were
abbrev pub MayTakeMore : Scope → Cited → Shared → Shared → Type 0
MayTakeMore s c old new =
    (counts_of new.words.items ≡ counts_of old.words.items)
    ⊎ ((n : ℕ) × IsCountOf s c.kinds n × HaveOneMore old.words.items new.words.items c.label.now n)

-- the label of a hypothesis is
abbrev pub MayTakeNone : Option (Bor (List ℕ)) → Shared → Shared → Type 0
MayTakeNone None old new = counts_of new.words.items ≡ counts_of old.words.items
MayTakeNone (Some label) old new = HaveOneMore old.words.items new.words.items label.now 0

-- the labels of hypotheses, and of those that are $e
pub record AreHypotheses (hypotheses : List Hypothesis) (h : Hypotheses) : Type 0 where
  pub mandatory : seen_words h.mandatory.items ≡ map label_of hypotheses
  pub premises : seen_words h.premises.items ≡ premise_labels hypotheses

-- a text is a compressed proof that is marked: its numbers count mandatory labels, and then labels that are among some others
pub record IsMarkedAs (i : List ℕ) (mandatory : List Word) (words : List CountedLabel) (text : List ℕ) : Type 0 where
  pub labels : List CountedLabel
  pub among : (p : Word × ℕ) → Contains (counts_of labels) p → Contains (counts_of words) p
  pub counted : List CountedLabel
  pub are : counts_of counted ≡ map (λ w. (w, 0)) mandatory ++ counts_of labels
  pub letters : List Word
  pub laid : IsLaidOutAs i (parenthesized (labels_in labels) ++ letters) text
  pub filled : IsTrue (are_cut i (columns_then i 79 (parenthesized (labels_in labels))) letters)
  pub marked : AreMarkedLetters counted (flat_map (λ w. w) letters)
