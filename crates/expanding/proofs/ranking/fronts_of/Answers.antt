-- What is left to show of `fronts_of`.
use Rattle.std.proofs.Common.{◌≡◌, ◌+◌, false, get_or, sym, subst, arith}
use Rattle.expanding.specs.Ranking.{taken_among}
use Rattle.expanding.proofs.Fronts.{AreFrontsTo, taken_within, taken_next, from_most, fronts_more}
use Rattle.expanding.proofs.ranking.fronts_of.Goals as goal

pub overflow_add-count : goal.overflow_add-count
overflow_add-count c =
    let few = taken_within c.args.flags.now c.loop-flag.flag-index in
    let one = from_most (get_or c.args.flags.now c.loop-flag.flag-index false) in
    let is = c.from-count.ensures in
    let so_far = c.loop-flag.invariant.count in
    omega arith

pub loop-flag-preserved : goal.loop-flag-preserved
loop-flag-preserved c =
    let flags = c.args.flags.now in
    let k = c.loop-flag.flag-index in
    let count : c.loop-flag.count + c.from-count.result ≡ taken_among flags (k + 1) =
    taken_next flags k false c.loop-flag-test.true c.loop-flag.count c.from-count.result c.loop-flag.invariant.count c.from-count.ensures in
    record {
      count = count;
      fronts =
          subst (AreFrontsTo flags (k + 1)) (sym c.in_ok-push.ensures.items)
          (fronts_more flags k c.loop-flag.fronts.items c.loop-flag.invariant.fronts _ count);
    }
