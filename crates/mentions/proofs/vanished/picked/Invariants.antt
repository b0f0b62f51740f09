-- What the loop of `picked` keeps: those of the labels so far that pass.
use Rattle.std.proofs.Common.{◌≡◌, ◌&&◌, map, take}
use Rattle.std.specs.Prelude.{filter}
use mathlib.Core.Bool.{not}
use Rattle.source.specs.Scopes.{is_in}
use Rattle.source.specs.Views.{seen_words}
use Rattle.mentions.proofs.vanished.picked.Given as goal

abbrev pub invariant-loop-label : goal.invariant-loop-label
invariant-loop-label l =
    let given_up = map (λ c. c.0) l.given_up in
    let living = map (λ c. c.0) l.living in
    seen_words l.made.items
    ≡ filter (λ w. is_in given_up w && not (is_in living w)) (seen_words (take l.label-index l.labels))
