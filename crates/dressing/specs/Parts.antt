-- Of the code's inside, apart from the rules: that a proof says the same as the one that stands at a place.
use Rattle.std.specs.Prelude.{◌≡◌, ℕ, List, take, Some}
use Rattle.mmsyntax.specs.declared.statement.Step.{Step}
use Rattle.source.specs.Statements.{Proof}
use Rattle.source.specs.Scopes.{Assertion, Scope}
use Rattle.dressing.specs.Quoted.{HaveSameWords, lists}

-- a proof lists the same steps, in other words, as that of the assertion at a place
pub record SaysTheSame (s : Scope) (place : ℕ) (x : Assertion) (proof : Proof) : Type 0 where
  pub written : Proof
  pub was : x.proof ≡ Some written
  pub others : HaveSameWords proof written → ⊥
  pub steps : List Step
  pub lists_now : lists s (take place s.assertions) x written ≡ Some steps
  pub lists_then : lists s (take place s.assertions) x proof ≡ Some steps
