-- What the loop of `lost_of` keeps: those that are lost of the labels so far.
use Rattle.std.proofs.Common.{◌≡◌, take, map}
use Rattle.std.specs.Prelude.{filter}
use mathlib.Core.Bool.{not}
use Rattle.source.specs.Scopes.{is_in}
use Rattle.source.specs.Views.{seen_words}
use Rattle.editedsource.proofs.spoken.lost_of.Given as goal

abbrev pub invariant-loop-label : goal.invariant-loop-label
invariant-loop-label l =
    seen_words l.made.items ≡ filter (λ w. not (is_in (map (λ c. c.0) l.living) w)) (seen_words (take l.label-index l.label-items))
