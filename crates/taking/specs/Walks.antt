-- What a walk over nodes lists, by what is named alone.
use Rattle.std.specs.Prelude.{◌≡◌, ℕ, Bool, true, false, List, [], ◌∷◌, ◌++◌, length, slice_get, Option, Some, MatchOption}
use mathlib.Core.Bool.{not}
use Rattle.mmsyntax.specs.declared.statement.Step.{Step}
use Rattle.source.specs.Proofs.{Tree}
use Rattle.taking.specs.declared.named.Named.{Named}
use Rattle.taking.specs.Settings.{Setting, AreNamed}
use Rattle.taking.specs.Listings.{listing}
use Rattle.taking.specs.Nodes.{Shared, trees}

-- what a node names is there, and the node takes as much as that asks for
abbrev pub TakesAll : List Named → Shared → Type 0
TakesAll named n = MatchOption (slice_get named n.named) ⊥ (λ x. length n.arguments ≡ length x.floats)

-- a flag is as wanted
abbrev pub is_wanted : Bool → Bool → Bool
is_wanted true f = f
is_wanted false f = not f

-- one more in front, or not
abbrev pub in_front : {A : Type 0} → Bool → A → List A → List A
in_front true x xs = x ∷ xs
in_front false x xs = xs

-- what stands at the $f, or at the $e
abbrev pub picked : {A : Type 0} → Bool → List Bool → List A → List A
picked wanted [] xs = []
picked wanted (f ∷ fs) [] = []
picked wanted (f ∷ fs) (x ∷ xs) = in_front (is_wanted wanted f) x (picked wanted fs xs)

-- the profile's order: first the $f
abbrev pub arranged : {A : Type 0} → List Bool → List A → List A
arranged fs xs = picked true fs xs ++ picked false fs xs

-- the steps of a node are listed: wherever labels name what is named, these list its tree, and there are none where the tree has no listing
abbrev pub IsListing : List Named → List Shared → ℕ → Option (List Step) → Type 0
IsListing named nodes root steps =
    (s : Setting) (t : Tree) → AreNamed s named → slice_get (trees s.labels nodes) root ≡ Some t
    → listing s.places s.earlier s.active t ≡ steps
