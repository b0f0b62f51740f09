-- Of the code's inside, apart from the rules: how contracts see what becomes of the assertions of a library.
use Rattle.std.specs.Prelude.{◌≡◌, ◌<◌, ℕ, List, map, All, Contains, Some, is_some, slice_get}
use Rattle.std.specs.Borrow.{Bor}
use Rattle.std.specs.Str.{bytes_eq}
use Rattle.std.specs.HashMap.{HashMap, get_by}
use Rattle.std.specs.declared.random_state.RandomState.{RandomState}
use Rattle.mmtext.specs.Words.{Word}
use Rattle.mmsyntax.specs.declared.statement.Assertion.{Assertion}
use Rattle.giving.specs.Staying.{Change}
use Rattle.std.specs.Option.{option_map}
use Rattle.source.specs.Scopes.{Hypothesis, Scope, is_in}
use Rattle.source.specs.Views.{seen_words}
use Rattle.arranging.specs.declared.call.Edits.{Edits}
use Rattle.arranging.specs.declared.coming.Coming.{Coming}
use Rattle.arranging.specs.Parts.{Edited, known_labels}
use Rattle.sourcewriting.specs.declared.listing.Cited.{Cited}
use Rattle.sourcewriting.specs.declared.listing.Names.{Names}
use Rattle.sourcewriting.specs.Counting.{IsCountOf, Takes}
use Rattle.sourcewriting.specs.Leaving.{StepTakes}
use Rattle.sourcewriting.specs.Added.{IsSpelled, IsSpelledThen}
use Rattle.sourcewriting.specs.declared.adding.SymbolWords.{SymbolWords}
use Rattle.mmsyntax.specs.declared.statement.Symbol.{Symbol}
use Rattle.mmsyntax.specs.declared.statement.Step.{Step}
use Rattle.sourceediting.specs.declared.following.Followed.{Followed as KeptAssertion}
use Rattle.sourceediting.specs.declared.following.Following.{Following as Kept}
use Rattle.sourceediting.specs.declared.planning.Planned.{Planned}
use Rattle.sourceediting.specs.Following.{Followed, Following, label_then}
use Rattle.sourceediting.specs.declared.moving.LibraryWalk.{LibraryWalk}
use Rattle.sourceediting.specs.Entries.{Edition, HasHypotheses, HasOnly, TakesThen, StepTakesThen, assertions_of, name_in_source, float_labels}
use Rattle.sourceediting.specs.Refusals.{IsKnownAs}

-- its labels are slices of texts
abbrev pub seen_followed : KeptAssertion → Followed
seen_followed x = record { source = option_map (λ w. w.now) x.source; first = x.first.now; now = x.now.now; moved = x.moved }

abbrev pub seen_living : List KeptAssertion → List Followed
seen_living xs = map seen_followed xs

abbrev pub seen_following : Kept → Following
seen_following f = record { living = seen_living f.living.items; gone = seen_words f.gone.items }

-- what a map finds under a label is one of these assertions, and has the label
abbrev pub AreLabelled : HashMap (Bor (List ℕ)) (Bor Assertion) RandomState → List Assertion → Type 0
AreLabelled m as' = (w : Word) (a : Bor Assertion) → get_by (λ k. bytes_eq w k.now) m ≡ Some a → Contains as' a.now × (a.now.label ≡ w)

-- the library, and the edits over it
abbrev pub edition_of : Planned → Edition
edition_of p = record { opened = p.database.now; names = map (λ q. (q.0.now, q.1)) p.names.now; edited = p.edited.now }

-- an assertion as proofs cite it then
pub record IsCitedAs (s : Scope) (e : Edition) (f : Followed) (c : Cited) : Type 0 where
  pub labelled : c.label.now ≡ label_then f
  pub many : (n : ℕ) → IsCountOf s c.kinds n → HasHypotheses s e f.now f.source n

-- what a map finds under a label is one that lives, as proofs cite it then
abbrev pub AreCitedThen : Scope → Edition → List Followed → HashMap (Bor (List ℕ)) Cited RandomState → Type 0
AreCitedThen s e living m =
    (w : Word) (c : Cited) → get_by (λ k. bytes_eq w k.now) m ≡ Some c → (f : Followed) × Contains living f × IsCitedAs s e f c

-- what the steps of proofs name takes as many entries as is known of the library
abbrev pub AreNamesOf : Scope → Edition → List Followed → Names → Type 0
AreNamesOf s e living m =
    (hypotheses : List Hypothesis) (label : Word) (n : ℕ) → Takes s m hypotheses label n → TakesThen s e living hypotheses label n

-- each assertion is found under its label
abbrev pub AreAllFound : HashMap (Bor (List ℕ)) (Bor Assertion) RandomState → List Assertion → Type 0
AreAllFound m as' = (a : Assertion) → Contains as' a → (b : Bor Assertion) × (get_by (λ k. bytes_eq a.label k.now) m ≡ Some b)

-- what a map finds under a label is one that lives with this label now, with as many hypotheses as that has; and of the first so many of
-- those that live each is found, if it has some number of them
pub record AreCitedNow (s : Scope) (e : Edition) (living : List Followed) (m : HashMap (Bor (List ℕ)) Cited RandomState) (count : ℕ)
    : Type 0 where
  pub found : (w : Word) (c : Cited) → get_by (λ k. bytes_eq w k.now) m ≡ Some c
      → (f : Followed) × Contains living f × (f.now ≡ w) × ((n : ℕ) → HasOnly s e f.now f.source n → IsCountOf s c.kinds n)
  pub there : (k : ℕ) (f : Followed) → slice_get living k ≡ Some f → k < count → (n : ℕ) → HasOnly s e f.now f.source n
      → (c : Cited) × (get_by (λ x. bytes_eq f.now x.now) m ≡ Some c)

-- steps take as many as they do in the edited library
abbrev pub AreStepsOf : Scope → Edition → List Followed → Names → Type 0
AreStepsOf s e living m =
    (premises : ℕ) (step : Step) (n : ℕ) → StepTakesThen s e living premises step n → StepTakes s m premises step n

-- so labels, steps and the $f are those of the names that proofs are written with
pub record AreThen (s : Scope) (e : Edition) (living : List Followed) (m : Names) : Type 0 where
  pub names : AreNamesOf s e living m
  pub steps : AreStepsOf s e living m
  pub floats : seen_words m.floats.items ≡ float_labels e

-- a map finds just the labels of the edited library
abbrev pub FindsLabels : HashMap (Bor (List ℕ)) (Bor Assertion) RandomState → Edition → Type 0
FindsLabels m e = (w : Word) → is_some (get_by (λ k. bytes_eq w k.now) m) ≡ is_in (map (λ a. a.label) (assertions_of e)) w

-- symbols of the library read so in the source
abbrev pub AreSpelledAs : Edition → SymbolWords → Type 0
AreSpelledAs e ws = (x : Symbol) → IsSpelledThen (name_in_source e.names) e.opened.prelude x → IsSpelled ws x

-- of these labels in the source each is that of one that lives, and stands beside the label that it has now
abbrev pub AreKnown : List Followed → List Change → Type 0
AreKnown living cs = All (λ c. IsKnownAs living c.1 (Some c.0)) cs

-- assertions of the source by these labels
abbrev pub AreMembers : List Followed → List (Bor (List ℕ) × Bor (List ℕ)) → Type 0
AreMembers living ms = All (λ m. IsKnownAs living m.1.now (Some m.0.now)) ms

-- those that a walk over the library's assertions met
pub record HasKnown (living : List Followed) (w : LibraryWalk) : Type 0 where
  pub moved : AreMembers living w.moved.items
  pub parted : All (λ r. AreMembers living r.members.items) w.parted.items
  pub row : AreMembers living w.row.members.items

-- the edits of a source, with what is put in
abbrev pub edited_of : Edits → List Coming → Edited
edited_of x comings = record {
  gone = known_labels x.gone.now;
  moving = known_labels x.moving.now;
  moved = known_labels x.moved.now;
  library = known_labels x.library.now;
  comings = comings;
}
