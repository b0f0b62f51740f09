-- What the loop of `encode_proof` keeps.
use Rattle.std.proofs.Common.{◌≡◌, map, take}
use Rattle.bodystore.specs.Bodies.{step_word}
use Rattle.bodystore.proofs.encode.encode_proof.Given as goal

abbrev pub invariant-loop-step : goal.invariant-loop-step
invariant-loop-step l = l.words.items ≡ map step_word (take l.step-index l.steps)
