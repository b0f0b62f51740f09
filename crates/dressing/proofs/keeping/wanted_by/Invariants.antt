-- What the loop of `wanted_by` keeps: the labels that are asked for so far.
use Rattle.std.proofs.Common.{◌≡◌, map, take}
use Rattle.std.specs.List.{flat_map}
use Rattle.source.specs.Views.{seen_words}
use Rattle.pasting.specs.Views.{seen_given_labels}
use Rattle.dressing.proofs.keeping.wanted_by.Given as goal

abbrev pub invariant-loop-one : goal.invariant-loop-one
invariant-loop-one l = seen_words l.labels.items ≡ flat_map (λ g. g.premises) (map seen_given_labels (take l.one-index l.given))
