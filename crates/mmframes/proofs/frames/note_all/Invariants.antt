use Rattle.std.proofs.Common.{◌≡◌, ℕ, ◌||◌, ◌&&◌, ltb, drop}
use Rattle.std.specs.List.{list_any}
use Rattle.mmframes.specs.Frames.{occurs}
use Rattle.mmframes.proofs.Mandatory.{has}
use Rattle.mmframes.proofs.frames.note_all.Given as goal

abbrev pub invariant-loop-expression : goal.invariant-loop-expression
invariant-loop-expression l =
    (j : ℕ) → (has j l.found.items || (ltb j l.count && list_any (occurs j) (drop l.expression-index l.expressions)))
    ≡ (has j l.initial.found.items || (ltb j l.count && list_any (occurs j) l.expressions))
