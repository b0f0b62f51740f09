-- What the loop of `opened` keeps.
use Rattle.std.proofs.Common.{◌≡◌, List, map, take}
use Rattle.source.specs.Scopes.{Assertion, Pair, is_in}
use Rattle.taking.specs.Reasons.{Choice}
use Rattle.sourceediting.specs.Following.{opened}
use Rattle.sourceediting.specs.Views.{seen_living}
use Rattle.sourceediting.proofs.Origins.{ArePaired, chosen_among}
use Rattle.sourceediting.proofs.following.opened.Given as goal

-- each chosen assertion so far stands beside one of the library
abbrev pub invariant-loop-place : goal.invariant-loop-place
invariant-loop-place g l =
    (choice : Choice) → map (λ (x : Assertion). is_in choice.chosen x.label) (g.D.Declared.scope l.declared).assertions ≡ l.chosen
    → (ps : List Pair) × (seen_living l.living.items ≡ map opened ps)
    × ArePaired (chosen_among choice (take l.place (g.D.Declared.scope l.declared).assertions)) l.assertions ps
