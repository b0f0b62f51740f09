-- What the loop of `type_places` keeps: the places so far.
use Rattle.std.proofs.Common.{◌≡◌, take}
use Rattle.std.specs.Prelude.{filter_map}
use Rattle.source.specs.Views.{seen_words}
use Rattle.sites.specs.Used.{noted, type_at}
use Rattle.sites.proofs.gathering.type_places.Given as goal

abbrev pub invariant-loop-label : goal.invariant-loop-label
invariant-loop-label l = l.types.items ≡ filter_map (type_at (noted l.used) l.constants) (seen_words (take l.label-index l.labels))
