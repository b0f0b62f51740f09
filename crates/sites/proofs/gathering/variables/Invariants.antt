-- What the loop of `variables` keeps: the variables so far.
use Rattle.std.proofs.Common.{◌≡◌, take}
use Rattle.std.specs.Prelude.{filter_map}
use Rattle.source.specs.Views.{seen_words}
use Rattle.sites.specs.Used.{noted, variable_at}
use Rattle.sites.proofs.gathering.variables.Given as goal

abbrev pub invariant-loop-label : goal.invariant-loop-label
invariant-loop-label l = seen_words l.made.items ≡ filter_map (variable_at (noted l.used)) (seen_words (take l.label-index l.labels))
