-- What the loop of `used_floats` keeps: those so far.
use Rattle.std.proofs.Common.{◌≡◌, take}
use Rattle.std.specs.Prelude.{filter}
use Rattle.source.specs.Views.{seen_words}
use Rattle.sites.specs.Used.{is_noted}
use Rattle.sites.proofs.gathering.used_floats.Given as goal

abbrev pub invariant-loop-label : goal.invariant-loop-label
invariant-loop-label l = seen_words l.made.items ≡ filter (is_noted l.used) (seen_words (take l.label-index l.labels))
