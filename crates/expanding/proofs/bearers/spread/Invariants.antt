-- What the loop of `spread` keeps: of each label that isn't left, those that may have it may have the next ones. Its measure: how many
-- labels are left, and how often more may still be found.
use Rattle.std.proofs.Common.{◌+◌, Bool, length, map}
use Rattle.mmtext.specs.Words.{Word}
use Rattle.source.specs.Views.{seen_words, seen_pairs}
use Rattle.expanding.specs.Bearing.{bearers_for, AreAmong, AllBacked, IsSpreadBut, rooms}
use Rattle.expanding.proofs.bearers.spread.Given as goal

abbrev pub invariant-loop-label : goal.invariant-loop-label
invariant-loop-label l = record {
  spread : IsSpreadBut (seen_pairs l.renames.pairs.items) (bearers_for l.called) (seen_words l.todo.items);
  up : (w : Word) → AreAmong (bearers_for l.fn.called w) (bearers_for l.called w);
  backed : (test : Word → Bool) → AllBacked (seen_pairs l.renames.pairs.items) test (bearers_for l.fn.called)
      → AllBacked (seen_pairs l.renames.pairs.items) test (bearers_for l.called);
}

abbrev pub decreases-loop-label : goal.decreases-loop-label
decreases-loop-label l =
    length (seen_words l.todo.items)
    + rooms (bearers_for l.called) (map (λ (r : Word × Word). r.1) (seen_pairs l.renames.pairs.items))
