use Rattle.std.proofs.Common.{◌≡◌, ◌≤◌, ◌+◌, ◌++◌, None, [], length, map, All}
use Rattle.std.specs.Prelude.{vec_len, vec_capacity}
use Rattle.std.specs.Vec.Iter.{into_iter_items, into_iter_len}
use Rattle.tlwords.specs.Known.{Knows}
use Rattle.lawful.specs.Lawful.{library_terms}
use Rattle.lawful.specs.Laws.{IsPassOn}
use Rattle.transaction.specs.Openings.{seated}
use Rattle.transaction.proofs.opening.seat_all.Given as goal

-- the sessions that are made, and those of the passes that are left, which are new
abbrev pub invariant-loop-pass : goal.invariant-loop-pass
invariant-loop-pass l =
    record {
      all : l.sessions.items ++ map (seated l.given) (into_iter_items l.pass-iterator) ≡ map (seated l.given) l.fn.passes.items;
      left : into_iter_len l.pass-iterator ≡ length (into_iter_items l.pass-iterator);
      room : vec_len l.sessions + length (into_iter_items l.pass-iterator) ≤ vec_capacity l.sessions;
      on : All (IsPassOn l.given) (into_iter_items l.pass-iterator);
      knows : All (Knows library_terms) (into_iter_items l.pass-iterator);
      new : All (λ k. k.drawn ≡ []) (into_iter_items l.pass-iterator);
      unrefused : All (λ k. k.full ≡ None) (into_iter_items l.pass-iterator);
    }
