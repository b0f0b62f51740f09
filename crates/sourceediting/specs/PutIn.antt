-- When an assertion of the edited library that is put into a source can be written there: one that was added, or one that leaves its place.
use Rattle.std.specs.Prelude.{◌||◌, Bool, true, false, List, map, Option, Some, slice_get}
use Rattle.std.specs.List.{list_any}
use Rattle.std.specs.Option.{option_and_then}
use Rattle.std.specs.Str.{bytes_eq}
use Rattle.mmtext.specs.Words.{Word}
use Rattle.mmsyntax.specs.Tables.{place_of}
use Rattle.mmsyntax.specs.declared.statement.Assertion.{Assertion as Unit'}
use Rattle.mmframes.specs.Frames.{frame}
use Rattle.source.specs.Statements.{Proof, compressed}
use Rattle.source.specs.Scopes.{Hypothesis, Scope, is_in}
use Rattle.sourcewriting.specs.Added.{CanBeAdded, IsSpelledThen, hypotheses_put, labels_given}
use Rattle.sourceediting.specs.Following.{Followed}
use Rattle.sourceediting.specs.Entries.{Edition, assertions_of, name_in_source, float_labels, TakesThen, StepTakesThen}

-- ---- its form

abbrev pub is_compressed_proof : Option Proof → Bool
is_compressed_proof (Some (compressed labels letters)) = true
is_compressed_proof _ = false

-- one that was added has a compressed proof where the source has one at all
abbrev pub has_compressed : Scope → Bool
has_compressed s = list_any (λ a. is_compressed_proof a.proof) s.assertions

-- another one has a compressed proof where its old one is
abbrev pub was_compressed : Scope → Word → Bool
was_compressed s label =
    is_compressed_proof (option_and_then (λ place. option_and_then (λ a. a.proof) (slice_get s.assertions place))
    (place_of (λ a. bytes_eq label a.label) s.assertions))

-- ---- whether it can be written

-- what the source or the edited library has as a name
abbrev pub is_name_then : Scope → Edition → Word → Bool
is_name_then s e w = (is_in s.symbols w || is_in s.labels w) || is_in (map (λ a. a.label) (assertions_of e)) w

-- its mandatory hypotheses there: its $e get the first of the labels L.1, L.2, .. which are free
abbrev pub hypotheses_then : Scope → Edition → Word → Unit' → List Hypothesis
hypotheses_then s e label a =
    hypotheses_put (float_labels e) (frame e.edited.setting.prelude a).floats (labels_given (is_name_then s e) label a)

-- an assertion can be written under a label, in this form
abbrev pub CanBePutIn : Scope → Edition → List Followed → Bool → Word → Unit' → Type 0
CanBePutIn s e living is_compressed label a =
    CanBeAdded (StepTakesThen s e living) (TakesThen s e living) (IsSpelledThen (name_in_source e.names) e.opened.prelude) is_compressed
    label (hypotheses_then s e label a) a
