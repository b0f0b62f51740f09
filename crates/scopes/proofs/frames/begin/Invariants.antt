-- What the loop of `begin` keeps.
use Rattle.std.proofs.Common.{◌≡◌, [], take, map}
use Rattle.source.specs.Scopes.{is_mandatory}
use Rattle.scopes.specs.Views.{kept_of, scope_of, stand_of, marks_of}
use Rattle.scopes.specs.Sound.{IsSoundTables}
use Rattle.scopes.proofs.frames.begin.Given as goal

abbrev pub invariant-loop-place : goal.invariant-loop-place
invariant-loop-place l = record {
  sound : IsSoundTables l.tables;
  stand : stand_of (kept_of l.tables) ≡ stand_of (kept_of l.fn.tables);
  marks : marks_of (kept_of l.tables)
      ≡ map (is_mandatory (take l.place (scope_of (kept_of l.fn.tables)).hypotheses) [])
      (scope_of (kept_of l.fn.tables)).hypotheses;
}
