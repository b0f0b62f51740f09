-- What is left to show of `opened_by_label`.
use Rattle.std.proofs.Common.{◌≡◌, get_or, sym, rules}
use Rattle.sourceediting.proofs.Labelled.{labelled_more}
use Rattle.sourceediting.proofs.planning.opened_by_label.Goals as goal

pub loop-assertion-preserved : goal.loop-assertion-preserved
loop-assertion-preserved c =
    let there : get_or c.args.assertions.now c.loop-assertion.assertion-index c.assertion-item.result ≡ c.assertion-item.result = search
    rules in
    labelled_more c.loop-assertion.found c.insert.new.self c.args.assertions.now c.as_slice.result.now _ c.loop-assertion.invariant
    (c.loop-assertion.assertion-index, c.loop-assertion-test.true, there) (sym c.as_slice.ensures) c.in_ok-insert.ensures.updates
