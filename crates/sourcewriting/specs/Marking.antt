-- Marks of a compressed proof (Metamath book, appendix B): a subproof that stands in several places is written once and marked there, and
-- elsewhere it is called by its number.
use Rattle.std.specs.Prelude.{◌≡◌, ◌≢◌, ℕ, suc, Bool, true, false, List, ◌∷◌, take, Option, Some, IsTrue, slice_get, []}
use Rattle.mmtext.specs.Words.{Word}
use Rattle.source.specs.Scopes.{Hypothesis, Assertion}
use Rattle.source.specs.Proofs.{Tree, node, over, Step, names, marks, taken_by, Stack, empty, run_steps}

-- a label takes entries: it is that of an assertion with mandatory hypotheses
abbrev pub takes_entries : Option (List Hypothesis) → Bool
takes_entries (Some (h ∷ hs)) = true
takes_entries _ = false

-- the step at a place is a label's, and behind it the last entry is what the label makes of what it takes (section 4.1.4)
pub record IsMadeAt {A : Type 0} (make : Word → List A → A) (earlier : List Assertion) (active : List Hypothesis) (steps : List Step)
    (label : Word) (x : A) (place : ℕ)
    : Type 0 where
  pub labelled : slice_get steps place ≡ Some (names label)
  pub stack : Stack A
  pub behind : run_steps make earlier active (Some empty) (take (suc place) steps) ≡ Some stack
  pub last : slice_get stack.entries 0 ≡ Some x

-- a label stands right in front of a place, and what it names takes entries, if it is there
pub record IsBehindCitation (earlier : List Assertion) (active : List Hypothesis) (steps : List Step) (place : ℕ) : Type 0 where
  pub before : ℕ
  pub behind : place ≡ suc before
  pub label : Word
  pub labelled : slice_get steps before ≡ Some (names label)
  pub takes : taken_by earlier active label ≢ Some []

-- steps of a proof of which active hypotheses may be named, after earlier assertions: no subproof that takes entries is made by two steps
-- of labels, so wherever it stands again it is called by its number; and each mark stands right behind the label that makes the subproof
pub record IsMarked (earlier : List Assertion) (active : List Hypothesis) (steps : List Step) : Type 0 where
  pub once : (label : Word) (t : Tree) (j k : ℕ) → IsTrue (takes_entries (taken_by earlier active label))
      → IsMadeAt (λ w ts. node w (over ts)) earlier active steps label t j
      → IsMadeAt (λ w ts. node w (over ts)) earlier active steps label t k → j ≡ k
  pub behind : (k : ℕ) → slice_get steps k ≡ Some marks → IsBehindCitation earlier active steps k
