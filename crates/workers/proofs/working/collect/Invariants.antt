use Rattle.std.proofs.Common.{◌≡◌, ◌≤◌, ◌+◌, ◌++◌, length, map, flat_map}
use Rattle.std.specs.Prelude.{vec_len, vec_capacity}
use Rattle.std.specs.Vec.Iter.{into_iter_items, into_iter_len}
use Rattle.workers.proofs.working.collect.Given as goal

-- what the shifts before have, and what those that are left have
abbrev pub invariant-loop-shift : goal.invariant-loop-shift
invariant-loop-shift l =
    record {
      sessions : l.sessions.items ++ map (λ s. s.session) (into_iter_items l.shift-iterator) ≡ map (λ s. s.session) l.fn.shifts.items;
      claimants : l.claimants.items ++ map (λ s. s.claimant) (into_iter_items l.shift-iterator) ≡ map (λ s. s.claimant) l.fn.shifts.items;
      rows : l.rows.items ++ flat_map (λ s. s.rows.items) (into_iter_items l.shift-iterator)
          ≡ flat_map (λ s. s.rows.items) l.fn.shifts.items;
      left : into_iter_len l.shift-iterator ≡ length (into_iter_items l.shift-iterator);
      room_sessions : vec_len l.sessions + length (into_iter_items l.shift-iterator) ≤ vec_capacity l.sessions;
      room_claimants : vec_len l.claimants + length (into_iter_items l.shift-iterator) ≤ vec_capacity l.claimants;
    }

-- the outcomes of the rows before, and those of the rows that are left
abbrev pub invariant-loop-row : goal.invariant-loop-row
invariant-loop-row l =
    record {
      outcomes : l.outcomes.items ++ map (λ row. row.outcomes) (into_iter_items l.row-iterator)
          ≡ map (λ row. row.outcomes) (into_iter_items l.initial.row-iterator);
      left : into_iter_len l.row-iterator ≡ length (into_iter_items l.row-iterator);
      room : vec_len l.outcomes + length (into_iter_items l.row-iterator) ≤ vec_capacity l.outcomes;
    }
