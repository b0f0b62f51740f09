-- What the loop of `chosen_labels` keeps: the labels so far.
use Rattle.std.proofs.Common.{◌≡◌, take}
use Rattle.std.specs.Prelude.{map}
use Rattle.source.specs.Views.{seen_words}
use Rattle.source.specs.Flags.{kept}
use Rattle.sites.proofs.gathering.chosen_labels.Given as goal

abbrev pub invariant-loop-place : goal.invariant-loop-place
invariant-loop-place g l =
    seen_words l.made.items ≡ map (λ x. x.label) (kept (take l.place l.chosen) (take l.place (g.D.Declared.scope l.declared).assertions))
