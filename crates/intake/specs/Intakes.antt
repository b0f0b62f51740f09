-- What is taken of a text by a wish, and why nothing is.
use Rattle.std.specs.Prelude.{◌≡◌, ◌≢◌, ◌<◌, ◌≤◌, ◌⊎◌, ℕ, suc, List, [], All, IsTrue, filter, length, map, take, Option, Some, None}
use Rattle.std.specs.Prelude.{slice_get}
use Rattle.std.specs.Option.{option_map}
use Rattle.std.specs.List.{list_any}
use Rattle.mmtext.specs.Words.{Word}
use Rattle.mmsyntax.specs.declared.statement.Kind.TheVariants.{Axiom}
use Rattle.mmsyntax.specs.declared.statement.Assertion.{Assertion as Unit'}
use Rattle.mmsyntax.specs.Tables.{Contents}
use Rattle.mmsyntax.specs.Layout.{HasSpelling}
use Rattle.source.specs.Scopes.{Assertion, Scope, is_in}
use Rattle.source.specs.Sources.{DeclaresText}
use Rattle.source.specs.Faults.{FaultySource}
use Rattle.taking.specs.declared.reason.Reason.{Reason}
use Rattle.taking.specs.Names.{Map, Naming, is_symbol_of, has_float_labelled}
use Rattle.taking.specs.Says.{SaysSame}
use Rattle.taking.specs.Listings.{IsListed}
use Rattle.taking.specs.Reasons.{Choice}
use Rattle.taking.specs.Taken.{Takes, chosen_of}
use Rattle.choosing.specs.Choices.{IsChoice, IsUnchosen, first_unknown, StandsBehind}
use Rattle.choosing.specs.declared.wish.Wish.{Wish}
use Rattle.choosing.specs.declared.wish.Unchosen.TheVariants as unchosen
use Rattle.derivation.specs.declared.fault.ProofFault.{ProofFault}
use Rattle.derivation.specs.declared.fault.ProofFaultKind.TheVariants.{TooLong}
use Rattle.derivation.specs.Databases.{AllCheck, IsFirstFault, citable_at}
use Rattle.derivation.specs.Faults.{HasProofFault}
use Rattle.drafts.specs.Limits.{IsPassed, PassesNone}
use Rattle.drafts.specs.declared.limits.Limit.{Limit}
use Rattle.drafts.specs.declared.limits.Limit.TheVariants as limit
use Rattle.sites.specs.Indexes.{HasRoom}
use Rattle.sites.specs.Sites.{Sited, AreSites}
use Rattle.sites.specs.Namings.{IsUnnamed}
use Rattle.intake.specs.declared.taken.Taken.{Taken}
use Rattle.intake.specs.declared.refusal.Refusal.{Refusal}
use Rattle.intake.specs.declared.refusal.Refusal.TheVariants as refusal
use Rattle.mmsyntax.specs.declared.limits.TheConstants.{MOST_ASSERTIONS, MOST_DECLARED}

-- ---- what is taken

-- what is told of it
abbrev pub axioms_of : Taken → List (Word × Reason)
axioms_of t = map (λ p. (p.0.now, p.1)) t.axioms.items

abbrev pub names_of : Taken → List Naming
names_of t = map (λ p. (p.0.now, p.1)) t.names.items

-- an assertion without its proof
abbrev pub unproved : Unit' → Unit'
unproved a = record a { kind = Axiom; proof = [] }

-- the theorem with a label is chosen of a source. It stands in the library, as a theorem or as an axiom; as a theorem its steps would list
-- the tree of its proof, and they have the fault that a citation gives an expression of over 65,535 symbols
pub record HasLongProof (s : Scope) (chosen : List Word) (m : Map) (db : Contents) (label : Word) : Type 0 where
  pub is_chosen : IsTrue (is_in chosen label)
  pub place : ℕ
  pub x : Assertion
  pub stands : slice_get s.assertions place ≡ Some x
  pub labelled : x.label ≡ label
  pub taken_at : ℕ
  pub theorem : Unit'
  pub taken : option_map unproved (slice_get db.assertions taken_at) ≡ Some (unproved theorem)
  pub says : SaysSame m db.prelude x theorem
  pub listed : IsListed m (take place s.assertions) x theorem
  pub step : ℕ
  pub fault : HasProofFault (citable_at db taken_at) db.prelude theorem (record { step = step; kind = TooLong })

-- the text declares a source, from which the library is taken by the wish, whose labels are labels of the source and stand the right way
-- round, and which chooses 4,096 assertions at most; its proofs check. Just theorems whose proofs are too long are told to be so
pub record IsTakenByWish (text : List ℕ) (w : Wish) (t : Taken) : Type 0 where
  pub source : Scope
  pub declares : DeclaresText text source
  pub choice : Choice
  pub is_choice : IsChoice source w (record choice { long = [] })
  pub known : first_unknown source w ≡ None
  pub in_order : StandsBehind source w → ⊥
  pub few : length choice.chosen ≤ MOST_ASSERTIONS
  pub takes : Takes source choice t.database (axioms_of t) (names_of t)
  pub long : All (HasLongProof source choice.chosen takes.places t.database) choice.long
  pub checks : AllCheck t.database
  -- its flags say which assertions were taken
  pub chosen_are : map (λ x. is_in choice.chosen x.label) source.assertions ≡ t.chosen.items

-- lists that are taken of a source by the choice of a wish that chooses, but for the theorems whose proofs are too long, and what is told
-- of them
pub record IsTakenOf (s : Scope) (w : Wish) (db : Contents) (axioms : List (Word × Reason)) (names : List Naming) : Type 0 where
  pub choice : Choice
  pub is_choice : IsChoice s w (record choice { long = [] })
  pub known : first_unknown s w ≡ None
  pub in_order : StandsBehind s w → ⊥
  pub few : length choice.chosen ≤ MOST_ASSERTIONS
  pub takes : Takes s choice db axioms names
  pub long : All (HasLongProof s choice.chosen takes.places db) choice.long

-- the library is taken of a source that was read, whatever text declares it, by the wish; its proofs check
pub record IsLibraryOf (s : Scope) (w : Wish) (t : Taken) : Type 0 where
  pub taken : IsTakenOf s w t.database (axioms_of t) (names_of t)
  pub checks : AllCheck t.database
  -- its flags say which assertions were taken
  pub chosen_are : map (λ x. is_in taken.choice.chosen x.label) s.assertions ≡ t.chosen.items

-- ---- refusals: what is behind the choice is told only of a wish that chooses

-- the wish chooses this: its labels are labels of the source and stand the right way round, and it chooses 4,096 assertions at most
pub record Chooses (s : Scope) (w : Wish) (choice : Choice) : Type 0 where
  pub is_choice : IsChoice s w choice
  pub known : first_unknown s w ≡ None
  pub in_order : StandsBehind s w → ⊥
  pub few : length choice.chosen ≤ MOST_ASSERTIONS

-- what is chosen has more constants or $f than a library
abbrev pub IsWide : Scope → List Assertion → Type 0
IsWide s taken =
    (MOST_DECLARED < length (filter (λ w. list_any (is_symbol_of w) taken) s.constants))
    ⊎ (MOST_DECLARED < length (filter (λ w. list_any (has_float_labelled w) taken) s.labels))

-- what the wish chooses has these sites, of which there are as few as in a library
pub record IsSited (s : Scope) (w : Wish) (t : Sited) : Type 0 where
  pub choice : Choice
  pub chooses : Chooses s w choice
  pub sites : AreSites s (chosen_of choice s) t
  pub room : HasRoom t.constants t.floats

-- lists that are taken from the text by the wish, but for the theorems whose proofs are too long
pub record IsDraft (text : List ℕ) (w : Wish) (db : Contents) : Type 0 where
  pub source : Scope
  pub declares : DeclaresText text source
  pub choice : Choice
  pub chooses : Chooses source w (record choice { long = [] })
  pub axioms : List (Word × Reason)
  pub names : List Naming
  pub takes : Takes source choice db axioms names
  pub long : All (HasLongProof source choice.chosen takes.places db) choice.long

-- the name in the source of what stands at the place of a limit, if the limit is at one
abbrev pub name_at : (constants variables floats labels : List Word) → Limit → Option Word
name_at constants variables floats labels (limit.LongConstant i) = slice_get constants i
name_at constants variables floats labels (limit.LongVariable i) = slice_get variables i
name_at constants variables floats labels (limit.LongFloat i) = slice_get floats i
name_at constants variables floats labels (limit.LongLabel i) = slice_get labels i
name_at constants variables floats labels (limit.ManyHypotheses i) = slice_get labels i
name_at constants variables floats labels (limit.ManySymbols i) = slice_get labels i
name_at constants variables floats labels (limit.ManyPairs i) = slice_get labels i
name_at constants variables floats labels (limit.ManySteps i) = slice_get labels i
name_at constants variables floats labels _ = None

abbrev pub name_in : Map → Limit → Option Word
name_in m = name_at m.constants m.variables m.floats (map (λ p. p.0) m.labels)

-- lists pass a limit, at what has the name
abbrev pub PassesAt : List ℕ → Wish → Limit → Option Word → Contents → Type 0
PassesAt text w limit name db =
    (draft : IsDraft text w db) × IsPassed db limit × (name ≡ name_in draft.takes.places limit) × (HasSpelling db → ⊥)

abbrev pub OfSource : List ℕ → (Scope → Type 0) → Type 0
OfSource text says = (s : Scope) × DeclaresText text s × says s

-- the proof of the theorem with a label has this fault, and it is the first; not that an expression is too long
abbrev pub IsProofFault : Contents → Word → ProofFault → Type 0
IsProofFault db label fault =
    (i : ℕ) × (option_map (λ a. a.label) (slice_get db.assertions i) ≡ Some label) × IsFirstFault db (suc i) fault
    × (fault.kind ≢ TooLong)

-- why nothing is taken
abbrev pub IsRefused : List ℕ → Wish → Refusal → Type 0
IsRefused text w (refusal.Source fault) = FaultySource text fault
IsRefused text w (refusal.UnknownLabel label) = OfSource text (λ s. IsUnchosen s w (unchosen.UnknownLabel label))
IsRefused text w refusal.Backwards = OfSource text (λ s. IsUnchosen s w unchosen.Backwards)
IsRefused text w (refusal.TooMany n) = OfSource text (λ s. IsUnchosen s w (unchosen.TooMany n))
IsRefused text w refusal.TooWide = OfSource text (λ s. (choice : Choice) × Chooses s w choice × IsWide s (chosen_of choice s))
IsRefused text w (refusal.NoFreshName word) =
    OfSource text (λ s. (t : Sited) × IsSited s w t × IsUnnamed s t.constants t.variables t.floats t.labels word.now)
IsRefused text w (refusal.Passes limit name) = (db : Contents) × PassesAt text w limit (option_map (λ n. n.now) name) db
IsRefused text w refusal.Unlawful = (db : Contents) × IsDraft text w db × PassesNone db × (HasSpelling db → ⊥)
IsRefused text w (refusal.Proof label fault) = (db : Contents) × IsDraft text w db × IsProofFault db label fault
IsRefused text w refusal.NoMemory = Unit {0}

-- why nothing is taken of a source that was read: it is why nothing is taken of any text that declares it; want of memory says nothing
pub record IsRefusedOf (s : Scope) (w : Wish) (why : Refusal) : Type 0 where
  pub refused : why ≢ refusal.NoMemory → (text : List ℕ) → DeclaresText text s → IsRefused text w why
