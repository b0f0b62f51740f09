-- Where a proof stands, and what its labels name there.
use Rattle.std.specs.Prelude.{◌≡◌, Bool, true, false, List, map, Some}
use Rattle.std.specs.Option.{option_map}
use Rattle.mmtext.specs.Words.{Word}
use Rattle.source.specs.Scopes.{Hypothesis, typing, premise, Assertion}
use Rattle.source.specs.Proofs.{taken_by}
use Rattle.taking.specs.declared.named.Named.{Named}
use Rattle.taking.specs.Names.{Map}
use Rattle.taking.specs.Listings.{step_in}

-- a proof stands behind earlier assertions, may name active hypotheses, and its numbers count labels; its names have places in the library
pub record Setting : Type 0 where
  pub places : Map
  pub earlier : List Assertion
  pub active : List Hypothesis
  pub labels : List Word

abbrev pub is_float : Hypothesis → Bool
is_float (typing label c v) = true
is_float (premise label ws) = false

-- this is what the labels of a proof name: what they take, and their own steps
pub record AreNamed (s : Setting) (named : List Named) : Type 0 where
  pub floats : map (λ w. option_map (map is_float) (taken_by s.earlier s.active w)) s.labels ≡ map (λ n. Some n.floats) named
  pub steps : map (step_in s.places s.active) s.labels ≡ map (λ n. n.step) named
