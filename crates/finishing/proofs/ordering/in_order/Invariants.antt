use Rattle.std.specs.Vec.Iter.{into_iter_items, into_iter_len}
use Rattle.finishing.proofs.Putting.{IsOrderedAmid}
use Rattle.finishing.proofs.ordering.in_order.Given as goal

abbrev pub invariant-loop-own : goal.invariant-loop-own
invariant-loop-own l =
    IsOrderedAmid l.fn.clock l.fn.records.items (into_iter_items l.own-iterator) (into_iter_len l.own-iterator) l.entries.items
