-- Laws of proofs: a listing has one tree, a proof one fault, and a change of labels keeps what is derived.
use Rattle.std.specs.Prelude.{◌≡◌, ◌≢◌, ℕ, All, List, ◌⊎◌, Some, Contains, Result, map, if◌then◌else◌}
use Rattle.std.specs.Str.{bytes_eq}
use Rattle.mmsyntax.specs.Tables.{Tables, Contents}
use Rattle.mmsyntax.specs.declared.statement.Frame.{Frame}
use Rattle.mmsyntax.specs.declared.statement.Assertion.{Assertion}
use Rattle.mmsyntax.specs.declared.statement.Step.{Step}
use Rattle.mmsyntax.specs.declared.statement.Step.TheVariants.{Float, Hyp, Cite}
pub use Rattle.mmsyntax.specs.ProofWords.{step_relabelled, replacing}
use Rattle.mmframes.specs.Frames.{frame}
use Rattle.derivation.specs.declared.fault.ProofFault.{ProofFault}
use Rattle.derivation.specs.Derivation.{Expression, Citable, Tree, Trees, float, hyp, node, none, some, Derives, listing, Proves}
use Rattle.derivation.specs.Faults.{HasFault}
use Rattle.derivation.specs.Databases.{frame_in, AllCheck, IsFirstFault}
use Rattle.derivation.specs.Outcomes.{IsOutcome, outcome}

-- a proof has at most one fault, and none where its steps list a tree that derives the statement
abbrev pub FaultIsOne : Type 0
FaultIsOne =
    (lib : Citable) (p : Tables) (a : Assertion) (f g : ProofFault) → HasFault lib p a f → HasFault lib p a g → f ≡ g

abbrev pub FaultExcludesProof : Type 0
FaultExcludesProof =
    (lib : Citable) (p : Tables) (a : Assertion) (f : ProofFault) → HasFault lib p a f → Proves lib p a a.proof a.statement → ⊥

-- a database has at most one first fault, and none where each of its proofs checks
abbrev pub FirstFaultIsOne : Type 0
FirstFaultIsOne =
    (db : Contents) (i j : ℕ) (f g : ProofFault) → IsFirstFault db i f → IsFirstFault db j g → (i ≡ j) × (f ≡ g)

abbrev pub FirstFaultExcludesCheck : Type 0
FirstFaultExcludesCheck = (db : Contents) (i : ℕ) (f : ProofFault) → IsFirstFault db i f → AllCheck db → ⊥

-- steps list at most one tree
abbrev pub TreeIsOne : Type 0
TreeIsOne =
    (lib : Citable) (p : Tables) (a : Assertion) (t u : Tree) (d e : Expression) → Derives lib p a t d → Derives lib p a u e
    → listing t ≡ listing u → (t ≡ u) × (d ≡ e)

-- a proof has one outcome: its tree or its fault, and no other
abbrev pub OutcomeIsOne : Type 0
OutcomeIsOne =
    (lib : Citable) (p : Tables) (a : Assertion) (r s : Result Tree ProofFault) → IsOutcome lib p a r → IsOutcome lib p a s → r ≡ s

-- and it is what a forest comes to that grows step by step
abbrev pub OutcomeIsGrown : Type 0
OutcomeIsGrown = (lib : Citable) (p : Tables) (a : Assertion) → IsOutcome lib p a (outcome lib p a)

-- over what may be cited only the labels count that the steps cite
abbrev pub OutcomeByCited : Type 0
OutcomeByCited =
    (lib lib' : Citable) (p : Tables) (a : Assertion) → ((label : List ℕ) → Contains a.proof (Cite label) → lib label ≡ lib' label)
    → outcome lib p a ≡ outcome lib' p a

abbrev mutual
  -- the tree with its labels changed
  pub relabelled : (List ℕ → List ℕ) → Tree → Tree
  relabelled change (float i) = float i
  relabelled change (hyp k) = hyp k
  relabelled change (node label trees) = node (change label) (all_relabelled change trees)

  pub all_relabelled : (List ℕ → List ℕ) → Trees → Trees
  all_relabelled change none = none
  all_relabelled change (some tree trees) = some (relabelled change tree) (all_relabelled change trees)

abbrev mutual
  -- the tree cites the label
  pub Mentions : Tree → List ℕ → Type 0
  Mentions (float i) l = ⊥
  Mentions (hyp k) l = ⊥
  Mentions (node label trees) l = (label ≡ l) ⊎ SomeMentions trees l

  pub SomeMentions : Trees → List ℕ → Type 0
  SomeMentions none l = ⊥
  SomeMentions (some tree trees) l = Mentions tree l ⊎ SomeMentions trees l

-- the one frame may stand for the other: the same hypotheses and statement, and no further pairs
pub record StandsFor (new old : Frame) : Type 0 where
  pub floats : new.floats ≡ old.floats
  pub hyps : new.hyps ≡ old.hyps
  pub statement : new.statement ≡ old.statement
  pub pairs : (q : ℕ × ℕ) → Contains new.pairs q → Contains old.pairs q

-- a tree whose labels were changed derives the same, where each frame that it cites has one that stands for it
abbrev pub RelabelledDerives : Type 0
RelabelledDerives =
    (lib lib' : Citable) (p : Tables) (a b : Assertion) (change : List ℕ → List ℕ) (t : Tree) (e : Expression)
    → b.hyps ≡ a.hyps → b.pairs ≡ a.pairs
    → ((label : List ℕ) (f : Frame) → Mentions t label → lib label ≡ Some f → (g : Frame) × (lib' (change label) ≡ Some g) × StandsFor g f)
    → Derives lib p a t e
    → Derives lib' p b (relabelled change t) e × (listing (relabelled change t) ≡ map (step_relabelled change) (listing t))

-- a tree in which the citations of one assertion became citations of another, that states the same of the same hypotheses
-- and asks for no further pairs, derives the same expression
abbrev pub ReplacedDerives : Type 0
ReplacedDerives =
    (lib : Citable) (p : Tables) (a : Assertion) (old new : List ℕ) (f g : Frame) (t : Tree) (e : Expression)
    → lib old ≡ Some f → lib new ≡ Some g → StandsFor g f → Derives lib p a t e → Derives lib p a (relabelled (replacing old new) t) e

-- assertions of the same hypotheses and statement have the same mandatory `$f`
abbrev pub AlikeStandsFor : Type 0
AlikeStandsFor =
    (p : Tables) (new old : Assertion) → new.hyps ≡ old.hyps → new.statement ≡ old.statement
    → ((q : ℕ × ℕ) → Contains (frame p new).pairs q → Contains (frame p old).pairs q) → StandsFor (frame p new) (frame p old)

-- steps whose labels were changed list a tree that derives the same, where each frame that they cite has one that stands for it
abbrev pub RelabelledProves : Type 0
RelabelledProves =
    (lib lib' : Citable) (p : Tables) (a b : Assertion) (change : List ℕ → List ℕ) (steps : List Step) (e : Expression)
    → b.hyps ≡ a.hyps → b.pairs ≡ a.pairs
    → ((label : List ℕ) (f : Frame) → Contains steps (Cite label) → lib label ≡ Some f
    → (g : Frame) × (lib' (change label) ≡ Some g) × StandsFor g f)
    → Proves lib p a steps e → Proves lib' p b (map (step_relabelled change) steps) e

-- the assertion with the one label become the other, in its own place and in its steps
abbrev pub renamed : List ℕ → List ℕ → Assertion → Assertion
renamed old new a = record a { label = replacing old new a.label; proof = map (step_relabelled (replacing old new)) a.proof }

-- where no assertion of a list has the new label, renaming keeps what proves
abbrev pub RenamedProves : Type 0
RenamedProves =
    (p : Tables) (lib : List Assertion) (old new : List ℕ) (a : Assertion)
    → All (λ b. b.label ≢ new) lib → Proves (frame_in p lib) p a a.proof a.statement
    → Proves (frame_in p (map (renamed old new) lib)) p (renamed old new a) (renamed old new a).proof (renamed old new a).statement
