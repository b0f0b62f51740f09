-- Of the code's inside, apart from the rules: what is known of an assertion that is to be taken, and what is made of it.
use Rattle.std.specs.Prelude.{◌≡◌, List, [], ◌∷◌, Option, Some, None, IsTrue, is_some, filter_map}
use Rattle.mmtext.specs.Words.{Word}
use Rattle.taking.specs.declared.reason.Reason.{Reason}
use Rattle.mmsyntax.specs.declared.statement.Kind.TheVariants.{Axiom, Theorem}
use Rattle.mmsyntax.specs.declared.statement.Assertion.{Assertion as Unit'}
use Rattle.mmsyntax.specs.Tables.{Tables}
use Rattle.source.specs.Scopes.{Assertion, Hypothesis, Pair}
use Rattle.taking.specs.Names.{Map, label_in}
use Rattle.taking.specs.Says.{each, premises, expression_in, pair_at, ascending, AreFloatsTaken, SaysSame}
use Rattle.taking.specs.Reasons.{Choice, reason}
use Rattle.taking.specs.Taken.{IsTaken}
use Rattle.sites.specs.Actives.{Placed, float_at}
use Rattle.gathering.specs.Placed.{symbols_by}
use Rattle.gathering.specs.declared.assembling.One.{One}
use Rattle.gathering.specs.declared.proving.Outcome.{Outcome}
use Rattle.gathering.specs.declared.proving.Outcome.TheVariants as outcome

-- all that it names has a place
pub record HasAllPlaces (m : Map) (t : Tables) (x : Assertion) : Type 0 where
  pub label : IsTrue (is_some (label_in m x.label))
  pub floats : AreFloatsTaken m t x
  pub hyps : IsTrue (is_some (each (expression_in m x.active) (premises x.active)))
  pub statement : IsTrue (is_some (expression_in m x.active x.statement))

-- its words are written by the places that they have, without a proof
pub record IsStatedBy (p : Placed) (name : Word) (qs : List Pair) (hs : List Hypothesis) (words : List Word) (a : Unit') : Type 0 where
  pub label : a.label ≡ name
  pub pairs : a.pairs ≡ ascending (filter_map (λ q. pair_at (float_at p q.0) (float_at p q.1)) qs)
  pub hyps : Some a.hyps ≡ each (each (symbols_by p)) (premises hs)
  pub statement : Some a.statement ≡ each (symbols_by p) words
  pub kind : a.kind ≡ Axiom
  pub proof : a.proof ≡ []

-- it says the same, without a proof
pub record IsStated (m : Map) (t : Tables) (x : Assertion) (a : Unit') : Type 0 where
  pub says : SaysSame m t x a
  pub kind : a.kind ≡ Axiom
  pub proof : a.proof ≡ []

-- it is taken, and the reason is told
pub record IsMade (m : Map) (t : Tables) (choice : Choice) (earlier : List Assertion) (x : Assertion) (one : One) : Type 0 where
  pub taken : IsTaken m t choice earlier x one.assertion
  pub told : reason choice earlier x ≡ one.reason

-- an assertion with what becomes of its proof
abbrev pub one_of : Unit' → Outcome → One
one_of a outcome.Axiom = record { assertion = a; reason = None }
one_of a (outcome.AsAxiom why) = record { assertion = a; reason = Some why }
one_of a (outcome.Theorem steps) = record { assertion = record a { kind = Theorem; proof = steps }; reason = None }

-- a label with a reason, if there is one
abbrev pub told_with : Option Word → Option Reason → List (Word × Reason)
told_with (Some label) (Some why) = (label, why) ∷ []
told_with _ _ = []
