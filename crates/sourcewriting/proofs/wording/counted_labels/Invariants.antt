use Rattle.std.proofs.Common.{◌≡◌, map, take}
use Rattle.source.specs.Views.{seen_words}
use Rattle.sourcewriting.specs.Reading.{counts_of}
use Rattle.sourcewriting.proofs.wording.counted_labels.Given as goal

abbrev pub invariant-loop-label : goal.invariant-loop-label
invariant-loop-label l = counts_of l.counted.items ≡ map (λ w. (w, 0)) (seen_words (take l.label-index l.mandatory))
