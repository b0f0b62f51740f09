-- How long listings are: as many steps as the size of the tree says.
use Rattle.std.specs.Prelude.{◌≡◌, ◌≤◌, ℕ, suc, List, length, Some}
use Rattle.std.specs.Option.{option_map}
use Rattle.mmsyntax.specs.declared.statement.Assertion.{Assertion as Unit'}
use Rattle.mmsyntax.specs.declared.statement.Step.{Step}
use Rattle.mmsyntax.specs.Tables.{Tables}
use Rattle.source.specs.Scopes.{Hypothesis, Assertion}
use Rattle.source.specs.Proofs.{Tree, Trees, node, none, some, taken_by, size}
use Rattle.taking.specs.Names.{Map}
use Rattle.taking.specs.Listings.{listing, IsListed}
use Rattle.taking.specs.Reasons.{Choice}
use Rattle.taking.specs.Taken.{IsTaken}
use Rattle.mmsyntax.specs.declared.limits.TheConstants.{MOST_STEPS}

abbrev pub how_many : Trees → ℕ
how_many none = 0
how_many (some t ts) = suc (how_many ts)

abbrev mutual
  -- each label of a tree stands over as many trees as it takes
  pub TakesEnough : List Assertion → List Hypothesis → Tree → Type 0
  TakesEnough earlier active (node w trees) =
      (option_map length (taken_by earlier active w) ≡ Some (how_many trees)) × TakeEnough earlier active trees

  pub TakeEnough : List Assertion → List Hypothesis → Trees → Type 0
  TakeEnough earlier active none = Unit {0}
  TakeEnough earlier active (some t ts) = TakesEnough earlier active t × TakeEnough earlier active ts

-- the listing of such a tree, if it has one
abbrev pub ListingsAreAsLong : Type 0
ListingsAreAsLong =
    (m : Map) (earlier : List Assertion) (active : List Hypothesis) (t : Tree) (steps : List Step) → TakesEnough earlier active t
    → listing m earlier active t ≡ Some steps → length steps ≡ size t

-- the listing of a proof
abbrev pub ProofsAreAsLong : Type 0
ProofsAreAsLong =
    (m : Map) (earlier : List Assertion) (x : Assertion) (a : Unit') (listed : IsListed m earlier x a) → length a.proof ≡ size listed.tree

-- what is taken has few steps (a rule of the profile)
abbrev pub TakenAreShort : Type 0
TakenAreShort =
    (m : Map) (t : Tables) (choice : Choice) (earlier : List Assertion) (x : Assertion) (a : Unit') → IsTaken m t choice earlier x a
    → length a.proof ≤ MOST_STEPS
