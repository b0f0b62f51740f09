-- What the loop of `raise_all` keeps: more may have each of the labels so far.
use Rattle.std.proofs.Common.{Bool, List, take}
use Rattle.std.specs.Prelude.{Contains}
use Rattle.mmtext.specs.Words.{Word}
use Rattle.source.specs.Views.{seen_words}
use Rattle.expanding.specs.Bearing.{bearers_for, seen_bearers, AreAmong, AreBacked, AllBacked, Rises}
use Rattle.expanding.proofs.bearers.raise_all.Given as goal

abbrev pub invariant-loop-label : goal.invariant-loop-label
invariant-loop-label l = record {
  rises : Rises (seen_words (take l.label-index l.labels)) (bearers_for l.fn.called) (bearers_for l.called)
      (seen_words l.fn.todo.items) (seen_words l.todo.items);
  raised : (w : Word) → Contains (seen_words (take l.label-index l.labels)) w → AreAmong (seen_bearers l.more) (bearers_for l.called w);
  backed : (rs : List (Word × Word)) (test : Word → Bool) → AllBacked rs test (bearers_for l.fn.called)
      → ((w : Word) → Contains (seen_words l.labels) w → AreBacked rs test w (seen_bearers l.more))
      → AllBacked rs test (bearers_for l.called);
}
