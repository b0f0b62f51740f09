-- What the loop of `flags_of` keeps.
use Rattle.std.proofs.Common.{◌≡◌, map}
use Rattle.source.specs.Views.{seen_hypotheses}
use Rattle.taking.specs.Settings.{is_float}
use Rattle.prooftrees.proofs.frames.flags_of.Given as goal

abbrev pub invariant-loop-hypothesis : goal.invariant-loop-hypothesis
invariant-loop-hypothesis l = l.flags.items ≡ map is_float (seen_hypotheses l.yielded)
