-- What is taken of a source into a library of the profile: the chosen assertions over a map of names, with their proofs listed.
use Rattle.std.specs.Prelude.{◌≡◌, Bool, true, false, List, [], ◌∷◌, ◌++◌, map, filter, Option, Some, None, IsTrue}
use Rattle.std.specs.List.{list_all}
use Rattle.mmtext.specs.Words.{Word}
use Rattle.mmsyntax.specs.declared.statement.Kind.TheVariants.{Axiom, Theorem}
use Rattle.mmsyntax.specs.declared.statement.Assertion.{Assertion as Unit'}
use Rattle.mmsyntax.specs.Tables.{Tables, Contents}
use Rattle.source.specs.Statements.{Proof}
use Rattle.source.specs.Scopes.{Assertion, Scope, is_in}
use Rattle.taking.specs.declared.reason.Reason.{Reason}
use Rattle.taking.specs.Names.{Map, HasPlaces, KeepsNames, Naming, renamed}
use Rattle.taking.specs.Says.{SaysSame}
use Rattle.taking.specs.Listings.{IsListed}
use Rattle.taking.specs.Reasons.{Choice, reason}

-- ---- assertions

-- a theorem has its proof, and an axiom has none; so has a theorem that there is a reason to take as an axiom: of its proof nothing is
-- needed
abbrev pub HasProof : Map → List Assertion → Assertion → Unit' → Option Proof → Option Reason → Type 0
HasProof m earlier x a (Some proof) None = (a.kind ≡ Theorem) × IsListed m earlier x a
HasProof m earlier x a _ _ = (a.kind ≡ Axiom) × (a.proof ≡ [])

-- an assertion of the library is taken from one of the source, after the earlier ones
abbrev pub IsTaken : Map → Tables → Choice → List Assertion → Assertion → Unit' → Type 0
IsTaken m t choice earlier x a = SaysSame m t x a × HasProof m earlier x a x.proof (reason choice earlier x)

-- where an assertion is chosen, it is the first that is taken
abbrev pub AreTakenFrom : Bool → (Unit' → Type 0) → (List Unit' → Type 0) → List Unit' → Type 0
AreTakenFrom true takes rest as' = (a : Unit') × (later : List Unit') × (as' ≡ a ∷ later) × takes a × rest later
AreTakenFrom false takes rest as' = rest as'

-- the assertions of the source behind earlier ones, of which the chosen ones are taken, in order
abbrev pub AreTaken : Map → Tables → Choice → List Assertion → List Assertion → List Unit' → Type 0
AreTaken m t choice earlier [] as' = as' ≡ []
AreTaken m t choice earlier (x ∷ xs) as' =
    AreTakenFrom (is_in choice.chosen x.label) (IsTaken m t choice earlier x) (AreTaken m t choice (earlier ++ x ∷ []) xs) as'

-- ---- what is told

-- a label with its reason
abbrev pub told_of : Word → Bool → Option Reason → List (Word × Reason)
told_of label true (Some why) = (label, why) ∷ []
told_of label _ _ = []

-- each chosen theorem that is taken as an axiom, by its label in the source, with its reason
abbrev pub taken_as_axioms : Choice → List Assertion → List Assertion → List (Word × Reason)
taken_as_axioms choice earlier [] = []
taken_as_axioms choice earlier (x ∷ xs) =
    told_of x.label (is_in choice.chosen x.label) (reason choice earlier x) ++ taken_as_axioms choice (earlier ++ x ∷ []) xs

-- ---- all

-- the chosen assertions of a source
abbrev pub chosen_of : Choice → Scope → List Assertion
chosen_of choice s = filter (λ x. is_in choice.chosen x.label) s.assertions

-- a database is taken by a choice from a source, of which this stands behind its statements; and what is told of it
pub record Takes (s : Scope) (choice : Choice) (db : Contents) (axioms : List (Word × Reason)) (names : List Naming) : Type 0 where
  -- each chosen label is there
  pub there : IsTrue (list_all (is_in (map (λ x. x.label) s.assertions)) choice.chosen)
  pub places : Map
  pub has_places : HasPlaces places db.prelude s (chosen_of choice s)
  pub keeps_names : KeepsNames places db.prelude s
  pub taken : AreTaken places db.prelude choice [] s.assertions db.assertions
  pub axioms_told : taken_as_axioms choice [] s.assertions ≡ axioms
  pub names_told : renamed places db.prelude ≡ names
