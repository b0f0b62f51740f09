-- What the loop of `put_labels` keeps: the labels so far.
use Rattle.std.proofs.Common.{◌≡◌, ◌++◌, map, take}
use Rattle.source.specs.Views.{seen_words}
use Rattle.standins.proofs.labels.put_labels.Given as goal

abbrev pub invariant-loop-assertion : goal.invariant-loop-assertion
invariant-loop-assertion l =
    seen_words l.found.items ≡ seen_words l.fn.found.items ++ map (λ a. a.label) (take l.assertion-index l.assertions)
