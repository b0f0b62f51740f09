use Rattle.std.proofs.Common.{◌<◌, [], length, arith}
use Rattle.std.proofs.lemmas.List.{take_more}
use Rattle.std.proofs.lemmas.Slice.Zip.{all_zipped_more}
use Rattle.std.proofs.Common.{get_or, take}
use Rattle.derivation.specs.Lookups.{AreVariablesOf}
use Rattle.stepcheck.proofs.pairs.variables_of_each.Goals as goal

pub loop-place-preserved : goal.loop-place-preserved
loop-place-preserved c =
    let s = c.args.substitution.now in
    let i = c.loop-place.place in
    let vs = c.in_ok-variables_of.field-0 in
    let lt : i < length s = omega arith in
    let one = rw (c.at.ensures (0, [])) at c.in_ok-variables_of.ensures in
    rw (take_more s i (0, []) lt, c.in_ok-push.ensures.items)
    (all_zipped_more (λ q us. AreVariablesOf us.items q.1) (take i s) c.loop-place.found.items (get_or s i (0, [])) vs
    c.loop-place.invariant one)
