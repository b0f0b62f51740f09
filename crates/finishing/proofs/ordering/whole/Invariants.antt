use Rattle.std.proofs.Common.{◌≡◌, ◌≤◌, ◌+◌, ◌++◌, length, map, Some}
use Rattle.std.specs.Prelude.{vec_len, vec_capacity}
use Rattle.std.specs.Vec.Iter.{into_iter_items, into_iter_len}
use Rattle.finishing.proofs.ordering.whole.Given as goal

-- what is in the history, and what is left
abbrev pub invariant-loop-entry : goal.invariant-loop-entry
invariant-loop-entry l =
    record {
      all : map Some l.history.items ++ into_iter_items l.entry-iterator ≡ l.fn.entries.items;
      left : into_iter_len l.entry-iterator ≡ length (into_iter_items l.entry-iterator);
      room : vec_len l.history + length (into_iter_items l.entry-iterator) ≤ vec_capacity l.history;
    }
