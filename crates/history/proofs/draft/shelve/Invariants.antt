use Rattle.std.proofs.Common.{◌≡◌, ◌≤◌, ◌+◌, ◌++◌, length}
use Rattle.std.specs.Prelude.{vec_len, vec_capacity}
use Rattle.std.specs.Vec.Iter.{into_iter_items, into_iter_len}
use Rattle.catalog.specs.Entries.{living}
use Rattle.history.proofs.draft.shelve.Given as goal

-- what is on the shelf, and what is left
abbrev pub invariant-loop-place : goal.invariant-loop-place
invariant-loop-place l =
    record {
      all : l.shelf.items ++ living (into_iter_items l.place-iterator) ≡ living l.fn.entries.items;
      left : into_iter_len l.place-iterator ≡ length (into_iter_items l.place-iterator);
      room : vec_len l.shelf + length (living (into_iter_items l.place-iterator)) ≤ vec_capacity l.shelf;
    }
