-- Findings: what the first step at fault of a proof asks for, and what it finds (Metamath book, sections 4.1.4 and 4.2.5 to 4.2.7).
use Rattle.std.specs.Prelude.{◌≡◌, ℕ, suc, true, List, [], ◌∷◌, ◌++◌, map, filter, find, length, Option, Some, None, Ok}
use mathlib.Core.Bool.{not}
use Rattle.std.specs.List.{list_all, zip}
use Rattle.std.specs.Str.{bytes_eq}
use Rattle.mmtext.specs.Words.{Word}
use Rattle.derivation.specs.declared.fault.ProofFaultKind.{ProofFaultKind}
use Rattle.derivation.specs.declared.fault.ProofFaultKind.TheVariants as kind
use Rattle.source.specs.Statements.{Proof}
use Rattle.source.specs.Scopes.{typing, premise, label_of, Assertion, mandatory_pairs}
use Rattle.source.specs.Proofs.{Step, names, steps_of, Stack, empty, pop, run_steps, made}
use Rattle.source.specs.Views.{seen_words}
use Rattle.verifying.specs.Citations.{Expression, substitution, replacement, subst, has_type, is_instance, variables_in, symbols_apart}
use Rattle.verifying.specs.Citations.{are_apart}
use Rattle.verifying.specs.Verifies.{Entry, entry}
use Rattle.verifying.specs.Faults.{is_counted, fault_of}
use Rattle.explaining.specs.declared.finding.Finding.{Finding}
use Rattle.explaining.specs.declared.finding.Finding.TheVariants.{WrongType, HypothesisDiffers, NotDisjoint, StatementDiffers}
use Rattle.explaining.specs.declared.finding.Explained.{Explained}

-- ---- where

-- the step with a number, from 1, of those that are counted, behind the steps in front of it
pub record IsStepAt (steps : List Step) (n : ℕ) (front : List Step) (step : Step) : Type 0 where
  pub rest : List Step
  pub parts : steps ≡ front ++ step ∷ rest
  pub counted : is_counted step ≡ true
  pub number : n ≡ suc (length (filter is_counted front))

-- over a stack a label cites an assertion, which takes these expressions, one for each of its mandatory hypotheses
pub record Cites (earlier : List Assertion) (x : Assertion) (stack : Stack Entry) (label : Word) (c : Assertion) (es : List Expression)
    : Type 0 where
  pub no_hypothesis : find (λ h. bytes_eq label (label_of h)) x.active ≡ None
  pub is_cited : find (λ a. bytes_eq label a.label) earlier ≡ Some c
  pub below : List Entry
  pub takes : pop c.hypotheses stack.entries [] ≡ Some (map (λ e. Ok e) es, below)

-- that step of a proof of x does
pub record IsCitation (earlier : List Assertion) (x : Assertion) (steps : List Step) (n : ℕ) (c : Assertion) (es : List Expression)
    : Type 0 where
  pub front : List Step
  pub label : Word
  pub at : IsStepAt steps n front (names label)
  pub stack : Stack Entry
  pub stands : run_steps (entry earlier x) earlier x.active (Some empty) front ≡ Some stack
  pub cites : Cites earlier x stack label c es

-- ---- what (section 4.1.4, in the order of the tests)

-- the first $f whose expression has another type
pub record FindsType (c : Assertion) (es : List Expression) (cited float wanted : Word) (found : Expression) : Type 0 where
  pub labelled : cited ≡ c.label
  pub variable : Word
  pub first_misfit : find (λ p. not (has_type p.0 p.1)) (zip c.hypotheses es) ≡ Some (typing float wanted variable, found)

-- the first $e that its expression isn't, after substitution
pub record FindsPremise (c : Assertion) (es : List Expression) (cited label : Word) (wanted found : Expression) : Type 0 where
  pub labelled : cited ≡ c.label
  pub symbols : Expression
  pub first_misfit : find (λ p. not (is_instance (substitution c es) p.0 p.1)) (zip c.hypotheses es) ≡ Some (premise label symbols, found)
  pub substituted : wanted ≡ subst (substitution c es) symbols

-- the first mandatory pair for whose variables stands what isn't apart; and of that the first variable that isn't apart from all of the
-- other, with the first from which it isn't
pub record FindsPair (x c : Assertion) (es : List Expression) (cited first second : Word) (for_first for_second : Expression)
    (one other : Word)
    : Type 0 where
  pub labelled : cited ≡ c.label
  pub first_misfit : find
      (λ p. not (are_apart x (replacement (substitution c es) p.0) (replacement (substitution c es) p.1))) (mandatory_pairs c)
      ≡ Some (first, second)
  pub first_is : for_first ≡ replacement (substitution c es) first
  pub second_is : for_second ≡ replacement (substitution c es) second
  pub one_is : find (λ u. not (list_all (symbols_apart x u) (variables_in x for_second))) (variables_in x for_first) ≡ Some one
  pub other_is : find (λ v. not (symbols_apart x one v)) (variables_in x for_second) ≡ Some other

-- what a citation finds
abbrev pub Finds : Assertion → Assertion → List Expression → Finding → Type 0
Finds x c es (WrongType cited float wanted found) = FindsType c es cited.now float.now wanted.now (seen_words found.items)
Finds x c es (HypothesisDiffers cited label wanted found) =
    FindsPremise c es cited.now label.now (seen_words wanted.items) (seen_words found.items)
Finds x c es (NotDisjoint cited first second for_first for_second one other) =
    FindsPair x c es cited.now first.now second.now (seen_words for_first.items) (seen_words for_second.items) one.now other.now
Finds x c es (StatementDiffers wanted found) = ⊥

-- what the end of a proof finds
pub record FindsStatement (earlier : List Assertion) (x : Assertion) (steps : List Step) (wanted found : Expression) : Type 0 where
  pub derives : made (entry earlier x) earlier x.active steps ≡ Some (Ok found)
  pub stated : wanted ≡ x.statement

-- what steps of a proof of x find at that with a number, or at their end
abbrev pub IsFound : List Assertion → Assertion → List Step → ℕ → Finding → Type 0
IsFound earlier x steps n (StatementDiffers wanted found) =
    FindsStatement earlier x steps (seen_words wanted.items) (seen_words found.items)
IsFound earlier x steps n finding =
    (c : Assertion) × (es : List Expression) × IsCitation earlier x steps n c es × Finds x c es finding

-- ---- of a proof

abbrev pub kind_of : Finding → ProofFaultKind
kind_of (WrongType cited float wanted found) = kind.WrongType
kind_of (HypothesisDiffers cited label wanted found) = kind.HypothesisDiffers
kind_of (NotDisjoint cited first second for_first for_second one other) = kind.NotDisjoint
kind_of (StatementDiffers wanted found) = kind.StatementDiffers

-- the fault of an assertion, and what the steps of its proof find there
pub record HasFinding (earlier : List Assertion) (x : Assertion) (n : ℕ) (finding : Finding) : Type 0 where
  pub fault : fault_of earlier x ≡ Some (record { step = n; kind = kind_of finding })
  pub proof : Proof
  pub has : x.proof ≡ Some proof
  pub steps : List Step
  pub listed : steps_of x.hypotheses proof ≡ Some steps
  pub found : IsFound earlier x steps n finding

-- it has no fault, or this one
abbrev pub IsExplained : List Assertion → Assertion → Option Explained → Type 0
IsExplained earlier x None = fault_of earlier x ≡ None
IsExplained earlier x (Some e) = HasFinding earlier x e.step e.finding
