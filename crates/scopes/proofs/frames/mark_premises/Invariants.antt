-- What the loop of `mark_premises` keeps.
use Rattle.std.proofs.Common.{◌≡◌, [], length, take, map}
use Rattle.source.specs.Scopes.{is_mandatory}
use Rattle.scopes.specs.Views.{kept_of, scope_of, stand_of, marks_of}
use Rattle.scopes.specs.Sound.{IsSoundTables}
use Rattle.scopes.proofs.frames.mark_premises.Given as goal

abbrev pub invariant-loop-place : goal.invariant-loop-place
invariant-loop-place l = record {
  sound : IsSoundTables l.tables;
  stand : stand_of (kept_of l.tables) ≡ stand_of (kept_of l.fn.tables);
  size : length l.tables.active.items ≡ length l.fn.tables.active.items;
  marks : take l.place (marks_of (kept_of l.tables)) ≡ take l.place (map (is_mandatory [] []) (scope_of (kept_of l.fn.tables)).hypotheses);
}
