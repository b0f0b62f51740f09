use Rattle.std.proofs.Common.{◌≡◌, take, map}
use Rattle.mmframes.specs.Frames.{frame}
use Rattle.proofcheck.proofs.databases.frames_of.Given as goal

abbrev pub invariant-loop-assertion : goal.invariant-loop-assertion
invariant-loop-assertion l = l.made.items ≡ map (frame l.prelude) (take l.assertion-index l.assertions)
