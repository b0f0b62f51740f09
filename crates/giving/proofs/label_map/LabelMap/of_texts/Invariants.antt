-- What the loop of `of_texts` keeps: the texts so far.
use Rattle.std.proofs.Common.{◌≡◌, take}
use Rattle.source.specs.Views.{seen_pairs}
use Rattle.giving.specs.Changes.{seen_texts}
use Rattle.giving.proofs.label_map.LabelMap.of_texts.Given as goal

abbrev pub invariant-loop-label : goal.invariant-loop-label
invariant-loop-label l = seen_pairs l.pairs.items ≡ seen_texts (take l.label-index l.texts)
