-- What the loop of `take_codes` keeps.
use Rattle.std.proofs.Common.{◌≡◌, ◌≤◌, false, map, take}
use Rattle.std.specs.List.{list_any}
use Rattle.source.specs.Letters.{is_absent}
use Rattle.source.specs.Proofs.{step_of}
use Rattle.source.specs.Views.{seen_words}
use Rattle.explaining.specs.Shown.{seen_assertion, seen_stack, Reached}
use Rattle.explaining.proofs.stepping.take_codes.Given as goal

abbrev pub invariant-loop-code : goal.invariant-loop-code
invariant-loop-code g l = record {
  few : l.step ≤ l.code-index;
  reached : list_any is_absent l.codes ≡ false
      → Reached (take l.place (g.D.Declared.scope l.declared).assertions) (seen_assertion l.listed.theorem.now)
      (map (step_of (seen_words l.listed.labels.now)) (take l.code-index l.codes)) (seen_stack l.stack) l.step;
}
