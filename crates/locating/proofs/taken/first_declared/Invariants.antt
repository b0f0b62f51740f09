-- What the loop of `first_declared` keeps.
use Rattle.std.proofs.Common.{◌≡◌, map, drop}
use Rattle.std.specs.Prelude.{find, ◌&&◌, ◌||◌}
use Rattle.mmtext.specs.Views.{seen}
use Rattle.locating.specs.Fronts.{says}
use Rattle.locating.specs.Taken.{spoken, declares_label, declares_symbol}
use Rattle.locating.proofs.taken.first_declared.Given as goal

abbrev pub invariant-loop-at : goal.invariant-loop-at
invariant-loop-at l =
    find (λ s. says l.name s.word && (declares_label s || declares_symbol s)) (drop l.at (spoken (map seen l.words)))
    ≡ find (λ s. says l.name s.word && (declares_label s || declares_symbol s)) (spoken (map seen l.words))
