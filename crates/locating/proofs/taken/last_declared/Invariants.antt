-- What the loop of `last_declared` keeps, and that it ends.
use Rattle.std.proofs.Common.{◌≡◌, ◌≤◌, ◌+◌, length, map, take, drop}
use Rattle.std.specs.Prelude.{find, reverse, ◌&&◌}
use Rattle.mmtext.specs.Views.{seen}
use Rattle.locating.specs.Fronts.{says}
use Rattle.locating.specs.Taken.{spoken, closed_by, is_declared}
use Rattle.locating.proofs.taken.last_declared.Given as goal

abbrev pub invariant-loop-at : goal.invariant-loop-at
invariant-loop-at l = record {
  within : l.at ≤ length l.words;
  few : l.closed + l.at ≤ length l.words;
  closes : l.closed ≡ closed_by (drop l.at (map seen l.words));
  kept : find (λ s. says l.name s.word && is_declared s) (reverse (take l.at (spoken (map seen l.words))))
      ≡ find (λ s. says l.name s.word && is_declared s) (reverse (spoken (map seen l.words)));
}

abbrev pub decreases-loop-at : goal.decreases-loop-at
decreases-loop-at l = l.at
