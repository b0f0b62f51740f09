-- What the loop of `count_unfinished` keeps.
use Rattle.std.proofs.Common.{◌≡◌, ◌≤◌, false, length, filter, take}
use Rattle.std.specs.Option.{option_map_or}
use Rattle.source.specs.Proofs.{is_unfinished}
use Rattle.sourcecheck.proofs.sources.count_unfinished.Given as goal

abbrev pub invariant-loop-place : goal.invariant-loop-place
invariant-loop-place g l = record {
  counted : l.count ≡ length (filter (λ x. option_map_or is_unfinished x.proof false)
      (take l.place (g.D.Declared.scope l.declared).assertions));
  few : l.count ≤ l.place;
}
