-- Of the code's inside, apart from the rules: what is known of a source between the steps of the call.
use Rattle.std.specs.Prelude.{◌≡◌, ◌≤◌, ℕ, Bool, List, [], map, length, All, Option}
use Rattle.mmtext.specs.Words.{Word}
use Rattle.mmsyntax.specs.declared.statement.Assertion.{Assertion as Unit'}
use Rattle.mmsyntax.specs.Tables.{Tables, Contents}
use Rattle.source.specs.Scopes.{Scope, is_in}
use Rattle.taking.specs.declared.reason.Reason.{Reason}
use Rattle.taking.specs.Names.{Map, Naming, renamed}
use Rattle.taking.specs.Reasons.{Choice, AreFlags, told_in}
use Rattle.taking.specs.Taken.{AreTaken, taken_as_axioms, chosen_of}
use Rattle.choosing.specs.Choices.{AreThere}
use Rattle.choosing.specs.declared.wish.Wish.{Wish}
use Rattle.derivation.specs.declared.fault.ProofFaultKind.TheVariants.{TooLong}
use Rattle.derivation.specs.Databases.{HasFaultAt}
use Rattle.sites.specs.declared.names.LibraryNames.{LibraryNames}
use Rattle.sites.specs.Namings.{AreNamedWell}
use Rattle.sites.specs.Sites.{Sited, AreTyped, AreSites}
use Rattle.gathering.specs.declared.assembling.Gathered.{Gathered}
use Rattle.gathering.specs.Placed.{map_of, tables_of}
use Rattle.drafts.specs.declared.limits.Limit.{Limit}
use Rattle.intake.specs.declared.rounds.Round.{Round}
use Rattle.intake.specs.declared.rounds.Round.TheVariants as round
use Rattle.intake.specs.Intakes.{IsTakenOf, IsLibraryOf, Chooses, HasLongProof, name_at}
use Rattle.mmsyntax.specs.declared.limits.TheConstants.{MOST_DECLARED}

-- lists that are taken of a source, with what is told of them, and flags that say of each assertion whether it was taken
pub record AreTakenBy (s : Scope) (w : Wish) (db : Contents) (axioms : List (Word × Reason)) (names : List Naming) (flags : List Bool)
    : Type 0 where
  pub taken : IsTakenOf s w db axioms names
  pub flags_are : map (λ x. is_in taken.choice.chosen x.label) s.assertions ≡ flags

-- what is said and proved of a source, by sites and names
abbrev pub lists_of : Sited → LibraryNames → List Unit' → Contents
lists_of t names as' = record { prelude = tables_of t names; assertions = as' }

pub record IsGathered (s : Scope) (w : Wish) (t : Sited) (names : LibraryNames) (g : Gathered) (flags : List Bool) : Type 0 where
  pub choice : Choice
  pub chooses : Chooses s w (record choice { long = [] })
  pub there : AreThere s choice.chosen
  pub long : All (HasLongProof s choice.chosen (map_of t names) (lists_of t names g.assertions.items)) choice.long
  pub sites : AreSites s (chosen_of choice s) t
  pub names_are : AreNamedWell s t.constants t.variables t.floats t.labels names
  pub taken : AreTaken (map_of t names) (tables_of t names) choice [] s.assertions g.assertions.items
  pub told_are : taken_as_axioms choice [] s.assertions ≡ told_in g.axioms.items
  pub flags_are : map (λ x. is_in choice.chosen x.label) s.assertions ≡ flags

-- the names that were changed, where sites have these names
abbrev pub changed_of : Sited → LibraryNames → List Naming
changed_of t names = renamed (map_of t names) (tables_of t names)

-- these flags say what a wish chooses
pub record IsChoiceByFlags (s : Scope) (w : Wish) (flags : List Bool) : Type 0 where
  pub choice : Choice
  pub chooses : Chooses s w choice
  pub flags_are : map (λ x. is_in choice.chosen x.label) s.assertions ≡ flags

-- what a wish chooses has these sites
pub record HasSites (s : Scope) (w : Wish) (t : Sited) : Type 0 where
  pub choice : Choice
  pub chooses : Chooses s w choice
  pub sites : AreSites s (chosen_of choice s) t

-- what has places in the library has these sites
pub record IsPlacedBy (t : Sited) (m : Map) : Type 0 where
  pub constants : m.constants ≡ t.constants
  pub variables : m.variables ≡ t.variables
  pub floats : m.floats ≡ t.floats
  pub labels : map (λ p. p.0) m.labels ≡ t.labels

-- lists that are taken of a source, by these sites
pub record AreDrafted (s : Scope) (w : Wish) (t : Sited) (db : Contents) (axioms : List (Word × Reason)) (names : List Naming)
    (flags : List Bool) : Type 0 where
  pub taken_by : AreTakenBy s w db axioms names flags
  pub placed : IsPlacedBy t taken_by.taken.takes.places

-- the name in the source of what stands at the place of a limit
abbrev pub name_by : Sited → Limit → Option Word
name_by t = name_at t.constants t.variables t.floats t.labels

-- sites have as many names, and few $f
pub record AreAsMany (sites : Sited) (names : LibraryNames) : Type 0 where
  pub constants : length names.constants ≡ length sites.constants
  pub variables : length names.variables ≡ length sites.variables
  pub floats : length names.floats ≡ length sites.floats
  pub labels : length names.labels ≡ length sites.labels
  pub types : AreTyped sites
  pub few : length sites.floats ≤ MOST_DECLARED

-- ---- rounds: what is taken with each proof, and again where a proof is too long

-- flags say what a wish chooses, and which of the theorems are known to have too long a proof, in whatever is taken of what is chosen
pub record AreChosen (s : Scope) (w : Wish) (m : Map) (t : Tables) (chosen front long : List Bool) : Type 0 where
  pub choice : Choice
  pub chooses : Chooses s w (record choice { long = [] })
  pub there : AreThere s choice.chosen
  pub flags : AreFlags s choice chosen front long
  pub are_long : (ls : List Word) (as' : List Unit') → AreTaken m t (record choice { long = ls }) [] s.assertions as'
      → All (HasLongProof s choice.chosen m (record { prelude = t; assertions = as' })) choice.long

-- the proof of the assertion of lists at a place is too long
abbrev pub IsLongAt : Contents → ℕ → Type 0
IsLongAt db place = (step : ℕ) × HasFaultAt db place (record { step = step; kind = TooLong })

-- a round that ends with a library has one that is taken by the wish
abbrev pub IsLibraryRound : Scope → Wish → Round → Type 0
IsLibraryRound s w (round.Library taken) = IsLibraryOf s w taken
IsLibraryRound s w (round.Long place) = Unit {0}

-- and one that ends with too long a proof tells its place in these lists
abbrev pub IsLongRound : Contents → Round → Type 0
IsLongRound db (round.Library taken) = Unit {0}
IsLongRound db (round.Long place) = IsLongAt db place

-- or in lists that are taken by flags
abbrev pub IsLongRoundOf : Scope → Map → Tables → (chosen front long : List Bool) → Round → Type 0
IsLongRoundOf s m t chosen front long r =
    (choice : Choice) → AreFlags s choice chosen front long
    → (as' : List Unit') × AreTaken m t choice [] s.assertions as' × IsLongRound (record { prelude = t; assertions = as' }) r
