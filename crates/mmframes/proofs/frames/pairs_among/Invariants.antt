use Rattle.std.proofs.Common.{◌≡◌, ◌&&◌, take}
use Rattle.std.specs.Prelude.{filter}
use Rattle.mmframes.proofs.Mandatory.{has}
use Rattle.mmframes.proofs.frames.pairs_among.Given as goal

abbrev pub invariant-loop-pair : goal.invariant-loop-pair
invariant-loop-pair l = l.found.items ≡ filter (λ q. has q.0 l.floats && has q.1 l.floats) (take l.pair-index l.pairs)
