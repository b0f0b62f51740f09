-- What the loop of `spread` keeps, and that it ends.
use Rattle.std.proofs.Common.{◌≤◌, ◌-◌, map, length, drop}
use Rattle.mmtext.specs.Views.{seen}
use Rattle.spreading.specs.Views.{seen_misfit}
use Rattle.spreading.proofs.PartByPart.{IsSpreading}
use Rattle.spreading.proofs.spreading.spread.Given as goal

abbrev pub invariant-loop-at : goal.invariant-loop-at
invariant-loop-at g l = record {
  within : l.at ≤ length l.words;
  spreading : IsSpreading (g.D.Declared.scope l.declared) (map seen l.words) (map seen (drop l.at l.words)) l.is_begun
      (map seen l.out.words.items)
      (map seen_misfit l.out.misfits.items);
}

abbrev pub decreases-loop-at : goal.decreases-loop-at
decreases-loop-at g l = length l.words - l.at
