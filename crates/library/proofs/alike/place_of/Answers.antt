-- What is left to show of `place_of`.
use Rattle.derivation.proofs.Lookups.{pair-searched}
use Rattle.library.proofs.alike.place_of.Goals as goal

pub returns-then-ascend : goal.returns-then-ascend
returns-then-ascend c =
    let search = c.binary_search.ensures in
    rw c.ok.ensures.value
    (pair-searched c.args.pairs.now c.args.pair c.binary_search.result (c.requires c.if-ascend.true) search.bound search.position)
