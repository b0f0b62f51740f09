-- What the loop of `ends_in` keeps: the ends in the words so far.
use Rattle.std.proofs.Common.{◌≡◌, map, take}
use Rattle.std.specs.List.{flat_map}
use Rattle.mmtext.specs.Views.{seen}
use Rattle.locating.specs.Steps.{step_ends}
use Rattle.locating.proofs.steps.ends_in.Given as goal

abbrev pub invariant-loop-word : goal.invariant-loop-word
invariant-loop-word l = l.ends.items ≡ flat_map step_ends (map seen (take l.word-index l.letters))
