use Rattle.std.proofs.Common.{◌≡◌, map, take}
use Rattle.std.specs.Option.{option_copied}
use Rattle.stepcheck.proofs.checking.frames_of.Given as goal

abbrev pub invariant-loop-label : goal.invariant-loop-label
invariant-loop-label g l = map option_copied l.found.items ≡ map (g.F.Frames.frames l.frames) (take l.label-index l.labels)
