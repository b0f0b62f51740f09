use Rattle.std.proofs.Common.{◌≡◌, ℕ, ◌+◌, ◌<◌, List, get_or, length}
use Rattle.cells.specs.Sight.{Looks, KnowsRange, ReadsNothing}
use Rattle.cells.proofs.words.is_numbered.Given as goal

abbrev pub invariant-loop-index : goal.invariant-loop-index
invariant-loop-index g l =
    Looks (g.C.Cells.sight l.fn.cells) (g.C.Cells.sight l.cells)
    × (length l.tail ≡ 5)
    × ((k : ℕ) (words : List ℕ) → k < l.index → KnowsRange (g.C.Cells.sight l.fn.cells) l.range words
    → get_or l.tail k 0 ≡ get_or words (l.front + k) 0)
    × ReadsNothing (g.C.Cells.sight l.fn.cells) (g.C.Cells.sight l.cells)
