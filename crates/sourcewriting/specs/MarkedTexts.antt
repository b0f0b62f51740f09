-- The text of another proof that is compressed: each subproof that stands twice is marked.
use Rattle.std.specs.Prelude.{◌≡◌, ℕ, true, List, Some, IsTrue}
use Rattle.mmtext.specs.Words.{Word}
use Rattle.source.specs.Statements.{compressed, proof_spelling}
use Rattle.source.specs.Scopes.{Hypothesis, Assertion}
use Rattle.source.specs.Proofs.{Step, steps_of}
use Rattle.items.specs.Items.{words}
use Rattle.sourcewriting.specs.Marking.{IsMarked}
use Rattle.sourcewriting.specs.Counting.{TakeAsMany}
use Rattle.sourcewriting.specs.Lines.{IsInLines, are_cut, columns_then, parenthesized}

-- a text is a compressed proof of a theorem with these mandatory hypotheses, and it is marked, wherever each label that may stand in it
-- takes as many entries as is known of it
pub record IsMarkedText (indentation : List ℕ) (takes : Word → ℕ → Type 0) (hypotheses : List Hypothesis) (text : List ℕ) : Type 0 where
  pub laid_out : IsInLines indentation true text
  pub labels : List Word
  pub letters : List Word
  pub says : words laid_out.laid.proof ≡ proof_spelling (compressed labels letters)
  pub filled : IsTrue (are_cut indentation (columns_then indentation 79 (parenthesized labels)) letters)
  pub steps : List Step
  pub steps_are : steps_of hypotheses (compressed labels letters) ≡ Some steps
  pub marked : (earlier : List Assertion) (active : List Hypothesis) → TakeAsMany takes earlier active → IsMarked earlier active steps
