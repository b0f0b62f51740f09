-- What the loop of `begin` keeps: the labels so far are those of their assertions.
use Rattle.std.proofs.Common.{◌≡◌, List, take}
use Rattle.std.specs.Prelude.{◌⊎◌, Contains}
use Rattle.std.specs.List.{All}
use Rattle.mmtext.specs.Words.{Word}
use Rattle.source.specs.Scopes.{is_in}
use Rattle.source.specs.Views.{seen_words}
use Rattle.expanding.specs.Called.{nobody, only}
use Rattle.expanding.specs.Bearing.{bearers_for, AreAmong, AllBacked}
use Rattle.expanding.proofs.bearers.begin.Given as goal

abbrev pub invariant-loop-label : goal.invariant-loop-label
invariant-loop-label l = record {
  noted : (w : Word) → Contains (seen_words l.todo.items) w ⊎ (bearers_for l.called w ≡ nobody);
  each : All (λ w. AreAmong (only w) (bearers_for l.called w)) (seen_words (take l.label-index l.labels));
  backed : (rs : List (Word × Word)) → AllBacked rs (is_in (seen_words l.labels)) (bearers_for l.called);
}
