-- What is found of a text whose proofs are all checked: it declares a source that verifies, or why it isn't said to.
use Rattle.std.specs.Prelude.{◌≡◌, ℕ, List, length, take, slice_get, Some}
use Rattle.mmtext.specs.Words.{Word}
use Rattle.derivation.specs.declared.fault.ProofFault.{ProofFault}
use Rattle.source.specs.Scopes.{Assertion, Scope}
use Rattle.source.specs.Sources.{DeclaresText}
use Rattle.source.specs.Faults.{FaultySource}
use Rattle.verifying.specs.Verifies.{Verifies, unfinished}
use Rattle.verifying.specs.Faults.{fault_in}
use Rattle.sourcecheck.specs.Answers.{IsRefusedIn}
use Rattle.explaining.specs.declared.finding.Finding.{Finding}
use Rattle.explaining.specs.Findings.{HasFinding}
use Rattle.sourcecheck.specs.declared.sources.Unverified.TheVariants as unverified
use Rattle.verifytext.specs.declared.refusal.Refusal.{Refusal}
use Rattle.verifytext.specs.declared.refusal.Refusal.TheVariants.{Source, Proof, TooLong, NoMemory}
use Rattle.verifytext.specs.declared.verifying_text.Verified.{Verified}

-- the text declares a source, which verifies, with so many assertions, and so many of its proofs are unfinished
pub record IsVerifiedText (text : List ℕ) (v : Verified) : Type 0 where
  pub source : Scope
  pub declares : DeclaresText text source
  pub verifies : Verifies source
  pub assertions_are : v.assertions ≡ length source.assertions
  pub unfinished_are : v.unfinished ≡ unfinished source

-- the first fault of the proofs of a source, in the proof of the assertion with a label, and what it finds there
pub record IsFirstFinding (s : Scope) (label : Word) (fault : ProofFault) (finding : Finding) : Type 0 where
  pub is_first : fault_in s ≡ Some (label, fault)
  pub place : ℕ
  pub assertion : Assertion
  pub stands : slice_get s.assertions place ≡ Some assertion
  pub labelled : assertion.label ≡ label
  pub finds : HasFinding (take place s.assertions) assertion fault.step finding

-- the text has the fault; or it declares a source of whose proofs this is the first fault and what it finds, or one of whose proofs is too
-- long. Of want of memory nothing is said
abbrev pub IsRefused : List ℕ → Refusal → Type 0
IsRefused text (Source fault) = FaultySource text fault
IsRefused text (Proof label fault finding) = (s : Scope) × DeclaresText text s × IsFirstFinding s label.now fault finding
IsRefused text (TooLong label) = (s : Scope) × DeclaresText text s × IsRefusedIn s (unverified.TooLong label)
IsRefused text NoMemory = Unit {0}
