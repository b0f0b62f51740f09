-- What the loop of `label_bytes` keeps.
use Rattle.std.proofs.Common.{◌≡◌, map, take}
use Rattle.conduct.proofs.take.label_bytes.Given as goal

abbrev pub invariant-loop-label : goal.invariant-loop-label
invariant-loop-label l = map (λ w. w.now) l.words.items ≡ map (λ t. t.now) (take l.label-index l.labels)
