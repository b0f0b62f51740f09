-- How long the expressions are that a proof of a source derives: a library has none of over 65,535 symbols (a rule of the profile).
use Rattle.std.specs.Prelude.{◌≤◌, List, find, length, Option, Some, None, Ok, Err, IfSome}
use Rattle.std.specs.Str.{bytes_eq}
use Rattle.mmsyntax.specs.declared.limits.TheConstants.{MOST_SYMBOLS}
use Rattle.source.specs.Scopes.{Hypothesis, label_of, Assertion}
use Rattle.source.specs.Proofs.{Tree, Trees, node, none, some, denoted}
use Rattle.verifying.specs.Verifies.{Entry}
use Rattle.verifying.specs.Laws.{value}

-- what is derived, if no test failed, has at most 65,535 symbols
abbrev pub IsShort : Entry → Type 0
IsShort (Ok e) = length e ≤ MOST_SYMBOLS
IsShort (Err kind) = Unit {0}

-- so has what a citation makes. What a hypothesis says is as long as it stands in the source
abbrev pub IsShortAt : Option Hypothesis → Entry → Type 0
IsShortAt (Some h) e = Unit {0}
IsShortAt None e = IsShort e

abbrev mutual
  -- each citation in a tree of a proof of x makes a short expression
  pub AreShort : List Assertion → Assertion → Tree → Type 0
  AreShort earlier x (node w trees) =
      IsShortAt (find (λ h. bytes_eq w (label_of h)) x.active) (value earlier x (node w trees)) × AllAreShort earlier x trees

  pub AllAreShort : List Assertion → Assertion → Trees → Type 0
  AllAreShort earlier x none = Unit {0}
  AllAreShort earlier x (some t ts) = AreShort earlier x t × AllAreShort earlier x ts

-- each citation in the proof of x, after the earlier assertions, makes a short expression
abbrev pub HasShortProof : List Assertion → Assertion → Type 0
HasShortProof earlier x = IfSome (denoted earlier x) (AreShort earlier x)
