-- Of the code's inside, apart from the rules: what one label of a proof names, and where it stands.
use Rattle.std.specs.Prelude.{◌≡◌, ℕ, Bool, true, List, map, find, Option, slice_get, Some, None, IsTrue, is_some}
use Rattle.std.specs.Option.{option_map}
use Rattle.std.specs.Str.{bytes_eq}
use Rattle.mmtext.specs.Words.{Word}
use Rattle.source.specs.Scopes.{Hypothesis, Assertion}
use Rattle.source.specs.Proofs.{taken_by}
use Rattle.taking.specs.declared.named.Named.{Named}
use Rattle.taking.specs.Names.{Map}
use Rattle.taking.specs.Listings.{step_in}
use Rattle.taking.specs.Settings.{is_float}
use Rattle.prooftrees.specs.declared.roles.Role.{Role}
use Rattle.prooftrees.specs.declared.roles.Role.TheVariants.{Float}
use Rattle.prooftrees.specs.Roles.{role_of}

-- what is so of the assertion at a place
abbrev pub At : List Assertion → ℕ → (Assertion → Type 0) → Type 0
At xs place P = (x : Assertion) → slice_get xs place ≡ Some x → P x

-- a label names what is there
abbrev pub IsKnown : List Assertion → List Hypothesis → Word → Type 0
IsKnown earlier active w = IsTrue (is_some (taken_by earlier active w))

-- this is what a label names: what that takes, and its own step
pub record IsNamed (m : Map) (earlier : List Assertion) (active : List Hypothesis) (w : Word) (named : Named) : Type 0 where
  pub floats_are : option_map (map is_float) (taken_by earlier active w) ≡ Some named.floats
  pub step_is : step_in m active w ≡ named.step

-- ---- where it is looked for

-- the assertion with a label
abbrev pub labelled : List Assertion → Word → Option Assertion
labelled xs w = find (λ a. bytes_eq w a.label) xs

-- these are the frames of assertions
abbrev pub AreFrames : List Assertion → (Word → Option (List Bool)) → Type 0
AreFrames xs floats = (w : Word) → floats w ≡ option_map (λ a. map is_float a.hypotheses) (labelled xs w)

-- a label that has no role where roles are looked for is that of an assertion, or else of a `$f`
pub record IsOther (earlier : List Assertion) (active : List Hypothesis) (w : Word) : Type 0 where
  pub cited : is_some (labelled earlier w) ≡ true → role_of active w ≡ None
  pub float : labelled earlier w ≡ None → role_of active w ≡ Some Float

-- these roles, of some active hypotheses, are enough to say what a label names
pub record AreEnough (earlier : List Assertion) (active : List Hypothesis) (roles : Word → Option Role) : Type 0 where
  pub own : (w : Word) (role : Role) → roles w ≡ Some role → role_of active w ≡ Some role
  pub others : (w : Word) → roles w ≡ None → IsKnown earlier active w → IsOther earlier active w
