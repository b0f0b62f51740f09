-- What the loop of `mark_symbols` keeps.
use Rattle.std.proofs.Common.{◌≡◌, List, ◌++◌, take, map}
use Rattle.mmtext.specs.Words.{Word}
use Rattle.source.specs.Scopes.{Hypothesis, is_mandatory}
use Rattle.scopes.specs.Views.{kept_of, scope_of, stand_of, marks_of}
use Rattle.scopes.specs.Symbols.{symbols_at}
use Rattle.scopes.specs.Sound.{IsSoundTables}
use Rattle.scopes.proofs.frames.mark_symbols.Given as goal

abbrev pub invariant-loop-index : goal.invariant-loop-index
invariant-loop-index l = record {
  sound : IsSoundTables l.tables;
  stand : stand_of (kept_of l.tables) ≡ stand_of (kept_of l.fn.tables);
  marks : (premises : List Hypothesis) (front : List Word)
      → marks_of (kept_of l.fn.tables) ≡ map (is_mandatory premises front) (scope_of (kept_of l.fn.tables)).hypotheses
      → marks_of (kept_of l.tables)
      ≡ map (is_mandatory premises (front ++ take l.index (symbols_at (scope_of (kept_of l.fn.tables)).hypotheses l.place)))
      (scope_of (kept_of l.fn.tables)).hypotheses;
}
