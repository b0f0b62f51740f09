-- What the loop of `fronts_of` keeps: the fronts so far.
use Rattle.std.proofs.Common.{◌≡◌}
use Rattle.expanding.specs.Ranking.{taken_among}
use Rattle.expanding.proofs.Fronts.{AreFrontsTo}
use Rattle.expanding.proofs.ranking.fronts_of.Given as goal

abbrev pub invariant-loop-flag : goal.invariant-loop-flag
invariant-loop-flag l = record {
  count : l.count ≡ taken_among l.flags l.flag-index;
  fronts : AreFrontsTo l.flags l.flag-index l.fronts.items;
}
