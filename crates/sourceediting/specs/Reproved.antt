-- Which theorems have another proof behind a history: those whose listing isn't the old one with changed labels.
use Rattle.std.specs.Prelude.{◌≡◌, ◌≢◌, ℕ, Bool, List, map, filter_map, length, Contains, All, Option, Some, None, IsTrue, slice_get, nat_eq}
use mathlib.Core.Bool.{not}
use Rattle.std.specs.Option.{option_and_then}
use Rattle.std.specs.Str.{bytes_eq}
use Rattle.mmtext.specs.Words.{Word}
use Rattle.mmsyntax.specs.declared.statement.Assertion.{Assertion}
use Rattle.mmsyntax.specs.declared.statement.Step.{Step}
use Rattle.mmsyntax.specs.declared.statement.Step.TheVariants.{Float, Hyp, Cite}
use Rattle.mmsyntax.specs.Tables.{place_of}
use Rattle.source.specs.Scopes.{Scope, Assertion as Old}
use Rattle.giving.specs.Staying.{Change, changed}
use Rattle.items.specs.Items.{Item, Spells}
use Rattle.items.specs.Indentations.{indentation_at}
use Rattle.sourcewriting.specs.Indentations.{indentation_like}
use Rattle.sourcewriting.specs.Forms.{is_compressed_form}
use Rattle.sourcewriting.specs.Leaving.{CanBePut}
use Rattle.taking.specs.Listings.{premise_labels}
use Rattle.sourcewriting.specs.Lines.{IsInLines}
use Rattle.sourcewriting.specs.MarkedTexts.{IsMarkedText}
use Rattle.sourceediting.specs.Following.{Followed}
use Rattle.sourceediting.specs.Entries.{Edition, assertions_of, TakesThen, StepTakesThen}

-- the labels that those of the opening had in the library, with those that they have now
abbrev pub now_of : Followed → Option Word → Option Change
now_of x None = None
now_of x (Some w) = Some (x.first, x.now)

abbrev pub changes_in_library : List Followed → List Change
changes_in_library fs = filter_map (λ f. now_of f f.source) fs

-- a step names the same under its label now
abbrev pub step_then : List Change → Step → Step
step_then cs (Cite w) = Cite (changed cs w)
step_then cs (Float i) = Float i
step_then cs (Hyp k) = Hyp k

-- a theorem of the source, by its label there: its listing isn't the old one with changed labels
pub record HasAnotherListing (opened edited : List Assertion) (living : List Followed) (label : Word) : Type 0 where
  pub followed : Followed
  pub lives : Contains living followed
  pub source : followed.source ≡ Some label
  pub old : Assertion
  pub was : Contains opened old
  pub first : old.label ≡ followed.first
  pub new : Assertion
  pub is : Contains edited new
  pub now : new.label ≡ followed.now
  pub differs : map (step_then (changes_in_library living)) old.proof ≢ new.proof

-- and this is it in the edited library
abbrev pub ListsAnew : Edition → List Followed → Word → Assertion → Type 0
ListsAnew e living label new = (is : HasAnotherListing e.opened.assertions (assertions_of e) living label) × (is.new ≡ new)

abbrev pub has_premises : Assertion → Bool
has_premises a = not (nat_eq (length a.hyps) 0)

-- the text of another proof of a theorem of the source: in the form of the old one, and laid out with its indentation, if it has one, or
-- else with six spaces where the theorem has $e, and with four elsewhere (section 4.2.8). A compressed one is marked, wherever each label
-- takes as many entries as it does by the source and the library (appendix B)
pub record IsWrittenFor (source : List ℕ) (s : Scope) (e : Edition) (living : List Followed) (label : Word) (new : Assertion)
    (text : List ℕ)
    : Type 0 where
  pub place : ℕ
  pub stands : place_of (λ x. bytes_eq label x.label) s.assertions ≡ Some place
  pub items : List Item
  pub rest : List ℕ
  pub spells : Spells items rest source
  pub laid_out : IsInLines (indentation_like (indentation_at items label) (has_premises new))
      (is_compressed_form (option_and_then (λ x. x.proof) (slice_get s.assertions place))) text
  pub marked : (x : Old) → slice_get s.assertions place ≡ Some x → IsTrue (is_compressed_form x.proof)
      → IsMarkedText (indentation_like (indentation_at items label) (has_premises new))
      (TakesThen s e living x.hypotheses) x.hypotheses text

-- a theorem has another proof, with such a text
abbrev pub HasAnotherProof : List ℕ → Scope → Edition → List Followed → Change → Type 0
HasAnotherProof source s e living p =
    (is : HasAnotherListing e.opened.assertions (assertions_of e) living p.0) × IsWrittenFor source s e living p.0 is.new p.1

abbrev pub AreOtherProofs : List ℕ → Scope → Edition → List Followed → List Change → Type 0
AreOtherProofs source s e living proofs = All (HasAnotherProof source s e living) proofs

-- ---- whether it can be written

-- another proof of a theorem can be put where that stands in the source
pub record CanBeReproved (s : Scope) (e : Edition) (living : List Followed) (label : Word) (new : Assertion) : Type 0 where
  pub place : ℕ
  pub stands : place_of (λ x. bytes_eq label x.label) s.assertions ≡ Some place
  pub old : Old
  pub is : slice_get s.assertions place ≡ Some old
  pub can : CanBePut (StepTakesThen s e living (length (premise_labels old.hypotheses))) (TakesThen s e living old.hypotheses)
      (is_compressed_form old.proof) old.hypotheses new.proof
