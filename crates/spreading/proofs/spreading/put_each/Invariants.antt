-- What the loop of `put_each` keeps: what is put for the theorems so far.
use Rattle.std.proofs.Common.{◌≡◌, ◌++◌, suc, map, take}
use Rattle.mmtext.specs.Views.{seen}
use Rattle.source.specs.Views.{seen_words}
use Rattle.spreading.specs.Spreading.{replaced_in_each}
use Rattle.spreading.specs.Views.{seen_star}
use Rattle.spreading.proofs.spreading.put_each.Given as goal

abbrev pub invariant-loop-label : goal.invariant-loop-label
invariant-loop-label l =
    map seen l.out.items
    ≡ map seen l.fn.out.items ++ replaced_in_each (seen_star l.star) (seen_words (take (suc l.label-index) l.labels))
