-- What the proof of an assertion is: none, unfinished, or a tree with what its labels name (Metamath book, sections 4.1.4 and 4.2.8).
use Rattle.std.specs.Prelude.{◌≡◌, true, false, List, All, None, Some}
use Rattle.source.specs.Scopes.{Assertion}
use Rattle.source.specs.Statements.{Proof}
use Rattle.source.specs.Proofs.{Tree, denoted, is_unfinished}
use Rattle.source.specs.Views.{seen_words}
use Rattle.taking.specs.Names.{Map}
use Rattle.taking.specs.Settings.{AreNamed}
use Rattle.taking.specs.Walks.{TakesAll}
use Rattle.taking.specs.Decoded.{tree_of, AreLabelsOf}
use Rattle.prooftrees.specs.declared.form.ProofTree.{ProofTree}
use Rattle.prooftrees.specs.declared.form.ProofForm.{ProofForm}
use Rattle.prooftrees.specs.declared.form.ProofForm.TheVariants as form

-- the tree that a finished proof denotes, and what its labels name where these have places in a library
pub record IsTree (m : Map) (earlier : List Assertion) (x : Assertion) (t : ProofTree) : Type 0 where
  pub tree : Tree
  pub denotes : denoted earlier x ≡ Some tree
  pub stands : tree_of (seen_words t.labels.items) t.proof ≡ Some tree
  pub named : AreNamed (record { places = m; earlier = earlier; active = x.active; labels = seen_words t.labels.items }) t.named.items
  pub whole : All (TakesAll t.named.items) t.proof.nodes
  pub cites : AreLabelsOf (seen_words t.labels.items) t.proof.nodes tree

abbrev pub IsForm : Map → List Assertion → Assertion → ProofForm → Type 0
IsForm m earlier x form.Absent = x.proof ≡ None
IsForm m earlier x form.Unfinished = (proof : Proof) × (x.proof ≡ Some proof) × (is_unfinished proof ≡ true)
IsForm m earlier x (form.Tree t) = (proof : Proof) × (x.proof ≡ Some proof) × (is_unfinished proof ≡ false) × IsTree m earlier x t
