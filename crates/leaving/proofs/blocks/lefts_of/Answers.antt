-- What is left to show of `lefts_of`.
use Rattle.std.proofs.Common.{◌≡◌, drop, ap, arith, length-drop}
use Rattle.leaving.specs.Ends.{counts_of}
use Rattle.leaving.proofs.Counted.{counts_within}
use Rattle.leaving.proofs.blocks.lefts_of.Goals as goal

pub take_in-requires-clause-room : goal.take_in-requires-clause-room
take_in-requires-clause-room c =
    let xs = drop c.loop-place.place c.args.parts.now in
    let few = counts_within xs in
    let long = length-drop c.loop-place.place c.args.parts.now in
    let same : c.loop-place.behind.counts.all ≡ (counts_of xs).all = ap (λ n. n.all) c.loop-place.invariant.behind.1 in
    omega arith
