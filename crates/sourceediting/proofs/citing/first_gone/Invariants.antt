-- What the loop of `first_gone` keeps.
use Rattle.std.proofs.Common.{◌≡◌, false, map, take}
use Rattle.std.specs.List.{list_any}
use Rattle.source.specs.Scopes.{is_in}
use Rattle.source.specs.Views.{seen_words}
use Rattle.sourceediting.proofs.citing.first_gone.Given as goal

-- none of the labels so far is gone
abbrev pub invariant-loop-label : goal.invariant-loop-label
invariant-loop-label l = list_any (is_in (map (λ c. c.0) l.gone)) (seen_words (take l.label-index l.labels)) ≡ false
