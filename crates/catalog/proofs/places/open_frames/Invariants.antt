use Rattle.std.proofs.Common.{◌≡◌, map, take}
use Rattle.mmframes.specs.Frames.{frame}
use Rattle.catalog.proofs.places.open_frames.Given as goal

abbrev pub invariant-loop-assertion : goal.invariant-loop-assertion
invariant-loop-assertion l = l.frames.items ≡ map (frame l.prelude) (take l.assertion-index l.assertions)
