-- What the loop of `decode_label` keeps.
use Rattle.std.proofs.Common.{◌≡◌, map, take}
use Rattle.std.specs.Prelude.{bit_and}
use Rattle.bodystore.proofs.decode.decode_label.Given as goal

abbrev pub invariant-loop-word : goal.invariant-loop-word
invariant-loop-word l = l.label ≡ map (λ w. bit_and w 255) (take l.word-index l.words)
