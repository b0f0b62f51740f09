use Rattle.std.specs.Vec.Iter.{into_iter_items, into_iter_len}
use Rattle.finishing.proofs.Putting.{IsAmid}
use Rattle.finishing.proofs.ordering.put_all.Given as goal

abbrev pub invariant-loop-record : goal.invariant-loop-record
invariant-loop-record l =
    IsAmid l.fn.records.items (into_iter_items l.record-iterator) (into_iter_len l.record-iterator) l.fn.entries.items l.entries.items
