-- When the steps of a proof in the library denote a tree where the proof is to stand: they leave one entry (Metamath book, section 4.1.4).
use Rattle.std.specs.Prelude.{◌≡◌, ◌<◌, ◌≤◌, ◌+◌, ℕ, suc, Bool, List, [], ◌∷◌, length, IsTrue, Some}
use Rattle.std.specs.Str.{bytes_eq}
use Rattle.std.specs.HashMap.{get_by}
use Rattle.mmsyntax.specs.declared.limits.TheConstants.{MOST_STEPS}
use Rattle.mmsyntax.specs.declared.statement.Step.{Step}
use Rattle.mmsyntax.specs.declared.statement.Step.TheVariants.{Float, Hyp, Cite}
use Rattle.mmtext.specs.Words.{Word}
use Rattle.source.specs.Scopes.{Hypothesis, Scope}
use Rattle.taking.specs.Listings.{premise_labels}
use Rattle.sourcewriting.specs.declared.listing.Cited.{Cited}
use Rattle.sourcewriting.specs.declared.listing.Names.{Names}
use Rattle.sourcewriting.specs.Counting.{IsCountOf, Takes}
use Rattle.sourcewriting.specs.Named.{IsName}

-- an assertion is cited by its label in the library, and takes so many entries
pub record IsCitedAs (s : Scope) (m : Names) (label : Word) (n : ℕ) : Type 0 where
  pub cited : Cited
  pub found : get_by (λ k. bytes_eq label k.now) m.cited ≡ Some cited
  pub many : IsCountOf s cited.kinds n

-- a step takes so many entries, in the proof of a theorem with so many $e: that of a $f or a $e which is there takes none
abbrev pub StepTakes : Scope → Names → ℕ → Step → ℕ → Type 0
StepTakes s m premises (Float i) n = (i < length m.floats.items) × (n ≡ 0)
StepTakes s m premises (Hyp k) n = (k < premises) × (n ≡ 0)
StepTakes s m premises (Cite label) n = IsCitedAs s m label n

-- steps lead from so many entries to so many, where each takes so many: it takes its own off, and puts one
abbrev pub Lead : (Step → ℕ → Type 0) → ℕ → List Step → ℕ → Type 0
Lead takes before [] after = before ≡ after
Lead takes before (step ∷ steps) after =
    (rest : ℕ) × (n : ℕ) × takes step n × (before ≡ rest + n) × Lead takes (suc rest) steps after

abbrev pub LeaveOne : (Step → ℕ → Type 0) → List Step → Type 0
LeaveOne takes steps = Lead takes 0 steps 1

-- a proof can be written, where each of its steps takes so many entries, and labels that may stand there do: it denotes a tree, of at most
-- 16,384 steps, and what may be a label in it is a name
pub record CanStand (step_takes : Step → ℕ → Type 0) (takes : Word → ℕ → Type 0) (steps : List Step) : Type 0 where
  pub few : length steps ≤ MOST_STEPS
  pub one : LeaveOne step_takes steps
  pub names : (label : Word) (n : ℕ) → takes label n → IsName label

-- and it can be compressed, where these are mandatory: a label takes as many entries wherever it stands, and there are numbers for what is
-- counted
pub record CanBeCounted (takes : Word → ℕ → Type 0) (hypotheses : List Hypothesis) : Type 0 where
  pub alike : (label : Word) (one other : ℕ) → takes label one → takes label other → one ≡ other
  pub few : length hypotheses + MOST_STEPS + MOST_STEPS < 268435460

-- so it can be put in a form: compressed, or not
abbrev pub CanBePut : (Step → ℕ → Type 0) → (Word → ℕ → Type 0) → Bool → List Hypothesis → List Step → Type 0
CanBePut step_takes takes is_compressed hypotheses steps =
    CanStand step_takes takes steps × (IsTrue is_compressed → CanBeCounted takes hypotheses)

-- a proof of a theorem with these hypotheses, by what steps name
abbrev pub CanBePutWith : Scope → Names → Bool → List Hypothesis → List Step → Type 0
CanBePutWith s m is_compressed hypotheses steps =
    CanBePut (StepTakes s m (length (premise_labels hypotheses))) (Takes s m hypotheses) is_compressed hypotheses steps
