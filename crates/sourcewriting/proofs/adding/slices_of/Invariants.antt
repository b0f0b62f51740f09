-- What the loop of `slices_of` keeps.
use Rattle.std.proofs.Common.{◌≡◌, map, take}
use Rattle.source.specs.Views.{seen_words}
use Rattle.sourcewriting.proofs.adding.slices_of.Given as goal

-- those that were gone through
abbrev pub invariant-loop-text : goal.invariant-loop-text
invariant-loop-text l = seen_words l.slices.items ≡ map (λ t. t.items) (take l.text-index l.texts)
