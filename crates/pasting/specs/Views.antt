-- Of the code's inside, apart from the rules: how contracts see proofs that are given, and what has a place in a library.
use Rattle.std.specs.Prelude.{◌≡◌, ◌<◌, ◌≤◌, Bool, true, List, ◌++◌, map, filter, length, Option, Some, None, slice_get}
use Rattle.std.specs.List.{AllByRecursion, list_any}
use Rattle.std.specs.Option.{option_and_then, option_map, option_or}
use Rattle.std.specs.Str.{bytes_eq}
use Rattle.mmtext.specs.Text.{Token}
use Rattle.mmtext.specs.Words.{Word}
use Rattle.mmtext.specs.Views.{seen}
use Rattle.mmsyntax.specs.Tables.{Tables, Contents, place_of}
use Rattle.mmsyntax.specs.Layout.{step_word}
use Rattle.mmsyntax.specs.declared.statement.Step.{Step}
use Rattle.mmsyntax.specs.declared.limits.TheConstants.{MOST_DECLARED}
use Rattle.source.specs.Flags.{kept}
use Rattle.source.specs.Scopes.{Assertion, Hypothesis, Scope}
use Rattle.source.specs.Views.{seen_hypothesis, seen_proof, seen_words}
use Rattle.sites.specs.Sites.{AreSites}
use Rattle.taking.specs.Names.{Map, is_symbol_of, has_float_labelled}
use Rattle.taking.specs.Settings.{is_float}
use Rattle.prooftrees.specs.Names.{labelled}
use Rattle.spreading.specs.Words.{word_at}
use Rattle.expanding.specs.Views.{seen_cut}
use Rattle.pasting.specs.Additions.{Addition, floats_of, theorem_of}
use Rattle.pasting.specs.Places.{places_of}
use Rattle.pasting.specs.Quotes.{GivenLabels, GivenProof, OwnWords, own_labels, own_proof, Quotation, Quote}
use Rattle.pasting.specs.Proofs.{Given, steps, untaken, faulty}
use Rattle.pasting.specs.Pasted.{Proving, added_word, with_labels, PasteFault, HasPasteFault}
use Rattle.pasting.specs.declared.addition.Addition.{Addition as CodeAddition}
use Rattle.pasting.specs.declared.additions.Additions.{Additions}
use Rattle.pasting.specs.declared.additions.Noted.{Noted}
use Rattle.pasting.specs.declared.placing.Placed.{Placed}
use Rattle.pasting.specs.declared.given.Given.{Given as CodeGiven}
use Rattle.pasting.specs.declared.given.Given.TheVariants as code
use Rattle.pasting.specs.declared.proving.Proving.{Proving as CodeProving}
use Rattle.pasting.specs.declared.proving.Theorem.{Theorem as CodeTheorem}
use Rattle.pasting.specs.declared.proving.Theorem.TheVariants as theorem
use Rattle.pasting.specs.declared.paster.Paster.{Paster}
use Rattle.pasting.specs.declared.own_words.GivenLabels.{GivenLabels as CodeLabels}
use Rattle.pasting.specs.declared.own_words.GivenProof.{GivenProof as CodeProof}
use Rattle.pasting.specs.declared.own_words.OwnWords.{OwnWords as CodeWords}
use Rattle.pasting.specs.declared.own_words.OwnWords.TheVariants as own
use Rattle.pasting.specs.declared.own_words.Quotation.{Quotation as CodeQuotation}
use Rattle.pasting.specs.declared.quotes.Quote.{Quote as CodeQuote}
use Rattle.pasting.specs.declared.unpasted.Unpasted.{Unpasted}
use Rattle.pasting.specs.declared.unpasted.Unpasted.TheVariants as unpasted

abbrev pub seen_given : CodeGiven → Given
seen_given (code.Steps proof) = steps proof
seen_given code.Untaken = untaken
seen_given (code.Faulty t kind) = faulty (seen t) kind

-- what the code has of an assertion that is added
abbrev pub seen_addition : CodeAddition → Addition
seen_addition a = record {
  label = seen a.label;
  premises = map seen_hypothesis a.premises.items;
  statement = seen_words a.statement.items;
}

-- the words of steps
abbrev pub word_of : Tables → CodeTheorem → Word → Step → Word
word_of t (theorem.Standing place) label = step_word t label
word_of t (theorem.Reproved a) label = step_word t label
word_of t (theorem.Added a) label = added_word t (seen_addition a)

abbrev pub step_of : Tables → CodeProving → Step → Token
step_of t c x = word_at c.label.place (word_of t c.theorem c.label.text.now x)

-- the theorem of the code is this one
abbrev pub IsTheorem : Map → Tables → Scope → CodeTheorem → Assertion → Type 0
IsTheorem m t s (theorem.Standing place) x = slice_get s.assertions place ≡ Some x
IsTheorem m t s (theorem.Reproved a) x = x ≡ theorem_of m t (seen_addition a.now)
IsTheorem m t s (theorem.Added a) x = x ≡ theorem_of m t (seen_addition a)

-- where it is of the source, it is there
abbrev pub IsWithin : Scope → CodeTheorem → Type 0
IsWithin s (theorem.Standing place) = place < length s.assertions
IsWithin s _ = Unit {0}

-- a command of the code is this one
pub record IsProving (m : Map) (t : Tables) (s : Scope) (c : CodeProving) (r : Proving) : Type 0 where
  pub cut : seen_cut c.cut ≡ r.cut
  pub ends : seen c.ends ≡ r.ends
  pub label : seen c.label ≡ r.label
  pub theorem : IsTheorem m t s c.theorem r.theorem
  pub word : word_of t c.theorem c.label.text.now ≡ r.word

abbrev pub IsProvingIf : Map → Tables → Scope → Option CodeProving → Option Proving → Type 0
IsProvingIf m t s None r = r ≡ None
IsProvingIf m t s (Some c) None = ⊥
IsProvingIf m t s (Some c) (Some r) = IsProving m t s c r

abbrev pub seen_own_words : CodeWords → OwnWords
seen_own_words (own.Proof p) = own_proof (seen_proof p)
seen_own_words (own.Premises ws) = own_labels (seen_words ws.items)

abbrev pub seen_quote : CodeQuote → Quote
seen_quote q = record { transaction = q.transaction; label = q.label.now; words = seen_own_words q.words }

abbrev pub seen_quotation : CodeQuotation → Quotation
seen_quotation q = record { label = q.label.now; words = seen_own_words q.words.now }

abbrev pub seen_given_proof : CodeProof → GivenProof
seen_given_proof g = record { label = g.label.now; proof = seen_proof g.proof.now }

abbrev pub seen_given_labels : CodeLabels → GivenLabels
seen_given_labels g = record { label = g.label.now; premises = seen_words g.premises.now }

-- ---- what may be cited

-- whether each mandatory hypothesis is a `$f`
abbrev pub flags_of : Assertion → List Bool
flags_of x = map is_float x.hypotheses

-- these assertions are added, as the code has them: by their labels, whether each mandatory hypothesis is a `$f`, and in their own words
pub record AreAdded (m : Map) (t : Tables) (xs : List Assertion) (ls : List Word) (fs : List (List Bool)) (own : List Addition) : Type 0
  where
    pub labels_are : ls ≡ map (λ x. x.label) xs
    pub flags_are : fs ≡ map flags_of xs
    pub theorems_are : map (theorem_of m t) own ≡ xs

-- while scripts are gone through
abbrev pub AreNoted : Map → Tables → List Assertion → Noted → Type 0
AreNoted m t xs n = AreAdded m t xs (seen_words n.labels.items) n.flags.items (map seen_addition n.added.items)

-- what stands at the place of a label
abbrev pub at_label : {A : Type 0} → List Word → List A → Word → Option A
at_label labels items w = option_and_then (slice_get items) (place_of (bytes_eq w) labels)

-- the flags of the assertion with a label: of these assertions, and else of what is added
abbrev pub flags_in : List Assertion → Additions → Word → Option (List Bool)
flags_in xs a w = option_or (option_map flags_of (labelled xs w)) (at_label a.labels a.flags.items w)

-- the code has what is added, and the `$f` of the library
pub record AreKnown (m : Map) (t : Tables) (xs : List Assertion) (a : Additions) : Type 0 where
  pub floats_are : map seen_hypothesis a.floats.items ≡ floats_of m t
  pub added : AreAdded m t xs a.labels a.flags.items (map seen_addition a.added.items)

-- hypotheses are `$f`
abbrev pub AreFloats : List Hypothesis → Type 0
AreFloats hs = AllByRecursion (λ h. is_float h ≡ true) hs

-- why a script isn't pasted
abbrev pub IsUnpasted : Map → Tables → Scope → List Assertion → List Token → Unpasted → Type 0
IsUnpasted m t s added ts (unpasted.Faulty at kind) = HasPasteFault m t s added ts (record { at = seen at; kind = kind })
IsUnpasted m t s added ts unpasted.NoMemory = Unit {0}

-- why a command isn't
abbrev pub IsFaultIn : Option PasteFault → Unpasted → Type 0
IsFaultIn f (unpasted.Faulty t kind) = f ≡ Some (record { at = seen t; kind = kind })
IsFaultIn f unpasted.NoMemory = Unit {0}

-- ---- pasters

-- what is taken has no more constants and $f than a library (a rule of the profile)
pub record IsNarrow (s : Scope) (flags : List Bool) : Type 0 where
  pub constants : length (filter (λ w. list_any (is_symbol_of w) (kept flags s.assertions)) s.constants) ≤ MOST_DECLARED
  pub floats : length (filter (λ w. list_any (has_float_labelled w) (kept flags s.assertions)) s.labels) ≤ MOST_DECLARED

-- a paster of a source, and of the library that is taken of it as flags say
pub record IsPaster (s : Scope) (flags : List Bool) (db : Contents) (p : Paster) : Type 0 where
  pub sites : AreSites s (kept flags s.assertions) p.sites
  pub database : p.database.now ≡ db

-- the places by which it pastes
abbrev pub places_by : Paster → Map
places_by p = places_of p.sites.floats p.sites.labels p.database.now

-- the words of a command with these steps
abbrev pub given_words : Tables → CodeProving → List Step → List Token
given_words t c xs = map seen c.cut.front.now ++ (map (step_of t c) xs ++ map seen c.cut.back.now)

-- where what is named has its place, what is added too
abbrev pub places_behind : Placed → Map
places_behind p = with_labels (places_of p.sites.now.floats p.sites.now.labels p.database.now) p.additions.now.labels
