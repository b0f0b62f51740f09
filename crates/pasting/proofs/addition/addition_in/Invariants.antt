-- What the loop of `addition_in` keeps: the `$e` so far, and what stands behind them.
use Rattle.std.proofs.Common.{◌≡◌, ◌∷◌, map, drop}
use Rattle.mmtext.specs.Views.{seen}
use Rattle.source.specs.Views.{seen_hypothesis}
use Rattle.pasting.specs.Additions.{addition_in}
use Rattle.pasting.proofs.Adding.{with_premises}
use Rattle.pasting.proofs.addition.addition_in.Given as goal

abbrev pub invariant-loop-at : goal.invariant-loop-at
invariant-loop-at l = addition_in (map seen l.words)
    ≡ with_premises (map seen_hypothesis l.premises.items) (addition_in (seen l.label ∷ map seen (drop l.at l.rest)))
