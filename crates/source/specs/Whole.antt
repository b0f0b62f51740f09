-- What is so of the assertions of each source: what they name is declared, a label is that of one hypothesis or of one assertion, and each
-- proof denotes a tree (Metamath book, sections 4.1.3 and 4.2; compressed proofs: appendix B).
use Rattle.std.specs.Prelude.{◌≡◌, Bool, false, ◌||◌, List, [], ◌∷◌, ◌++◌, map, All, IfSome, IsTrue, is_some}
use Rattle.std.specs.List.{list_any}
use Rattle.std.specs.Str.{bytes_eq}
use Rattle.mmtext.specs.Words.{Word}
use Rattle.mmsyntax.specs.Assertions.{Distinct}
use Rattle.source.specs.Statements.{Proof, normal, compressed, Statements}
use Rattle.source.specs.Scopes.{Hypothesis, typing, premise, label_of, Assertion, Scope, is_in, is_float_of, mandatory}
use Rattle.source.specs.Proofs.{taken_by, leaves_one, is_unfinished}
use Rattle.source.specs.Sources.{Declares}

-- ---- an assertion

-- a constant, or a variable that has an active $f there (section 4.1.3)
abbrev pub is_typed_at : Scope → Assertion → Word → Bool
is_typed_at s x w = is_in s.constants w || list_any (is_float_of w) x.active

abbrev pub IsHypothesisWhole : Scope → Assertion → Hypothesis → Type 0
IsHypothesisWhole s x (typing label c v) = IsTrue (is_in s.labels label) × IsTrue (is_in s.constants c)
IsHypothesisWhole s x (premise label ws) = IsTrue (is_in s.labels label) × All (λ w. IsTrue (is_typed_at s x w)) ws

-- the labels that stand in a proof, apart from those of its mandatory hypotheses
abbrev pub labels_in : Proof → List Word
labels_in (normal ws) = ws
labels_in (compressed labels letters) = labels

-- a proof denotes a tree, and a finished one names what is there (section 4.2.8, appendix B)
pub record IsProofWhole (earlier : List Assertion) (x : Assertion) (proof : Proof) : Type 0 where
  pub named : is_unfinished proof ≡ false → All (λ w. IsTrue (is_some (taken_by earlier x.active w))) (labels_in proof)
  pub leaves_one : IsTrue (leaves_one earlier x.active x.hypotheses proof)

-- an assertion that stands behind earlier ones, in a source
pub record IsAssertionWhole (s : Scope) (earlier : List Assertion) (x : Assertion) : Type 0 where
  pub hypotheses : All (IsHypothesisWhole s x) x.active
  pub statement : All (λ w. IsTrue (is_typed_at s x w)) x.statement
  pub mandatory : mandatory x.active x.statement ≡ x.hypotheses
  pub proof : IfSome x.proof (IsProofWhole earlier x)

-- assertions behind earlier ones
abbrev pub AreAssertionsWhole : Scope → List Assertion → List Assertion → Type 0
AreAssertionsWhole s earlier [] = Unit {0}
AreAssertionsWhole s earlier (x ∷ xs) = IsAssertionWhole s earlier x × AreAssertionsWhole s (earlier ++ x ∷ []) xs

-- ---- a source

-- hypotheses of one label are one (section 4.1.3)
abbrev pub AgreeOnLabels : List Hypothesis → List Hypothesis → Type 0
AgreeOnLabels hs ks = All (λ h. All (λ k. label_of h ≡ label_of k → h ≡ k) ks) hs

-- what stands behind a source: labels are those of one assertion, or of one hypothesis (section 4.1.3)
pub record IsWhole (s : Scope) : Type 0 where
  pub assertions : AreAssertionsWhole s [] s.assertions
  pub distinct : Distinct bytes_eq (map (λ x. x.label) s.assertions)
  pub agree : All (λ x. All (λ y. AgreeOnLabels x.active y.active) s.assertions) s.assertions
  pub apart : All (λ x. All (λ h. list_any (λ y. bytes_eq (label_of h) y.label) s.assertions ≡ false) x.active) s.assertions

-- so is each source
abbrev pub SourcesAreWhole : Type 0
SourcesAreWhole = (ss : Statements) (s : Scope) → Declares ss s → IsWhole s
