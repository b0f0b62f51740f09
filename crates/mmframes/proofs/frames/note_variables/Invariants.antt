use Rattle.std.proofs.Common.{◌≡◌, ℕ, ◌||◌, ◌&&◌, ltb, drop}
use Rattle.std.specs.List.{list_any}
use Rattle.mmframes.specs.Frames.{is_variable}
use Rattle.mmframes.proofs.Mandatory.{has}
use Rattle.mmframes.proofs.frames.note_variables.Given as goal

abbrev pub invariant-loop-symbol : goal.invariant-loop-symbol
invariant-loop-symbol l =
    (j : ℕ) → (has j l.found.items || (ltb j l.count && list_any (is_variable j) (drop l.symbol-index l.symbols)))
    ≡ (has j l.initial.found.items || (ltb j l.count && list_any (is_variable j) l.symbols))
