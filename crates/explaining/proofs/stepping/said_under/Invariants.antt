-- What the loop of `said_under` keeps.
use Rattle.std.proofs.Common.{◌≡◌, map, drop}
use Rattle.std.specs.Prelude.{find}
use Rattle.std.specs.Str.{bytes_eq}
use Rattle.source.specs.Scopes.{label_of}
use Rattle.source.specs.Views.{seen_hypothesis}
use Rattle.explaining.proofs.stepping.said_under.Given as goal

abbrev pub invariant-loop-hypothesis : goal.invariant-loop-hypothesis
invariant-loop-hypothesis l =
    find (λ h. bytes_eq l.label (label_of h)) (map seen_hypothesis (drop l.hypothesis-index l.active))
    ≡ find (λ h. bytes_eq l.label (label_of h)) (map seen_hypothesis l.active)
