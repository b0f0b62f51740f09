-- What the loop of `rank` keeps, and that it ends.
use Rattle.std.proofs.Common.{◌≤◌, ◌-◌, ℕ, Bool, List, map, length, drop}
use Rattle.mmtext.specs.Views.{seen}
use Rattle.expanding.specs.Views.{IsRankerOf}
use Rattle.expanding.proofs.PartsRanked.{IsRanking}
use Rattle.expanding.proofs.ranking.Ranker.rank.Given as goal

abbrev pub invariant-loop-at : goal.invariant-loop-at
invariant-loop-at g l = record {
  within : l.at ≤ length l.words;
  ranking : (flags : List Bool) (earlier : List ℕ) → IsRankerOf (g.D.Declared.scope l.declared) flags earlier l.fn.self
      → IsRanking (g.D.Declared.scope l.declared) flags earlier (map seen l.words) (map seen (drop l.at l.words)) l.laid l.self;
}

abbrev pub decreases-loop-at : goal.decreases-loop-at
decreases-loop-at g l = length l.words - l.at
