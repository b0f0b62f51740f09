-- What the loop of `those_in` keeps: those of the labels so far that are among the others.
use Rattle.std.proofs.Common.{◌≡◌, map, take}
use Rattle.std.specs.Prelude.{filter}
use Rattle.source.specs.Scopes.{is_in}
use Rattle.source.specs.Views.{seen_words}
use Rattle.mentions.proofs.lines.those_in.Given as goal

abbrev pub invariant-loop-label : goal.invariant-loop-label
invariant-loop-label l =
    seen_words l.made.items ≡ filter (λ w. is_in (map (λ c. c.0) l.names) w) (seen_words (take l.label-index l.labels))
