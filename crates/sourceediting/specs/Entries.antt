-- How many entries a label takes in a proof of the edited library, where that is to stand in the source (Metamath book, section 4.1.4).
use Rattle.std.specs.Prelude.{◌≡◌, ◌<◌, ◌+◌, ◌⊎◌, ℕ, List, length, map, Contains, Option, Some, None, slice_get}
use Rattle.std.specs.Option.{option_map}
use Rattle.std.specs.Str.{bytes_eq}
use Rattle.mmtext.specs.Words.{Word}
use Rattle.mmsyntax.specs.declared.statement.Assertion.{Assertion as Unit'}
use Rattle.mmsyntax.specs.declared.statement.Step.{Step}
use Rattle.mmsyntax.specs.declared.statement.Step.TheVariants.{Float, Hyp, Cite}
use Rattle.mmsyntax.specs.Tables.{Tables, Contents, place_of}
use Rattle.mmframes.specs.Frames.{frame}
use Rattle.source.specs.Scopes.{Hypothesis, label_of, Scope}
use Rattle.taking.specs.Names.{Naming}
use Rattle.giving.specs.Staying.{changed}
use Rattle.library.specs.Library.{Listed}
use Rattle.sourceediting.specs.Following.{Followed, label_then}

-- a library that was taken of a source, with its names that were changed, and what it is behind the edits
pub record Edition : Type 0 where
  pub opened : Contents
  pub names : List Naming
  pub edited : Listed

abbrev pub assertions_of : Edition → List Unit'
assertions_of e = map (λ r. r.assertion) e.edited.entries

-- a name of the library in the source
abbrev pub name_in_source : List Naming → Word → Word
name_in_source names w = changed (map (λ p. (p.1, p.0)) names) w

abbrev pub float_labels : Edition → List Word
float_labels e = map (λ f. name_in_source e.names f.label) e.opened.prelude.floats

-- so many mandatory hypotheses: the $f and the $e of a frame
abbrev pub count_in_frame : Tables → Unit' → ℕ
count_in_frame t a = length (frame t a).floats + length (frame t a).hyps

-- one entry for each mandatory hypothesis: as it stands in the source, or else as it was added to the library
abbrev pub HasHypotheses : Scope → Edition → Word → Option Word → ℕ → Type 0
HasHypotheses s e now (Some w) n = (place : ℕ) × (place_of (λ x. bytes_eq w x.label) s.assertions ≡ Some place)
    × (option_map (λ x. length x.hypotheses) (slice_get s.assertions place) ≡ Some n)
HasHypotheses s e now None n =
    (a : Unit') × Contains (assertions_of e) a × (a.label ≡ now) × (n ≡ count_in_frame e.edited.setting.prelude a)

-- the label that an assertion of the library has then
pub record IsCitedThen (s : Scope) (e : Edition) (living : List Followed) (label : Word) (n : ℕ) : Type 0 where
  pub followed : Followed
  pub lives : Contains living followed
  pub labelled : label_then followed ≡ label
  pub many : HasHypotheses s e followed.now followed.source n

-- that of a $f of the library in the source, or of a mandatory hypothesis of the theorem: it takes none
pub record IsHypothesisThen (e : Edition) (hypotheses : List Hypothesis) (label : Word) (n : ℕ) : Type 0 where
  pub stands : Contains (float_labels e) label ⊎ Contains (map label_of hypotheses) label
  pub none : n ≡ 0

abbrev pub TakesThen : Scope → Edition → List Followed → List Hypothesis → Word → ℕ → Type 0
TakesThen s e living hypotheses label n = IsCitedThen s e living label n ⊎ IsHypothesisThen e hypotheses label n

-- ---- what steps name there

-- so many entries, and no other number, if there are more assertions with the label
abbrev pub HasOnly : Scope → Edition → Word → Option Word → ℕ → Type 0
HasOnly s e now (Some w) n = HasHypotheses s e now (Some w) n
HasOnly s e now None n =
    HasHypotheses s e now None n
    × ((a : Unit') → Contains (assertions_of e) a → a.label ≡ now → n ≡ count_in_frame e.edited.setting.prelude a)

-- an assertion is cited by its label in the edited library, and takes so many entries where it stands then
pub record IsCitedNow (s : Scope) (e : Edition) (living : List Followed) (label : Word) (n : ℕ) : Type 0 where
  pub followed : Followed
  pub lives : Contains living followed
  pub now : followed.now ≡ label
  pub many : (f : Followed) → Contains living f → f.now ≡ label → HasOnly s e f.now f.source n

-- a step takes so many entries, in the proof of a theorem with so many $e: that of a $f or a $e which is there takes none
abbrev pub StepTakesThen : Scope → Edition → List Followed → ℕ → Step → ℕ → Type 0
StepTakesThen s e living premises (Float i) n = (i < length (float_labels e)) × (n ≡ 0)
StepTakesThen s e living premises (Hyp k) n = (k < premises) × (n ≡ 0)
StepTakesThen s e living premises (Cite label) n = IsCitedNow s e living label n
