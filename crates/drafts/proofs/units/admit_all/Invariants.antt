-- What the loop of `admit_all` keeps.
use Rattle.std.proofs.Common.{◌≡◌, ◌++◌}
use Rattle.std.specs.Vec.Iter.{into_iter_items}
use Rattle.drafts.proofs.Admitted.{units_of, AreAdmitted}
use Rattle.drafts.proofs.units.admit_all.Given as goal

abbrev pub invariant-loop-assertion : goal.invariant-loop-assertion
invariant-loop-assertion l = record {
  so_far : l.units ≡ units_of l.yielded;
  admitted : AreAdmitted l.prelude l.yielded;
  split : l.yielded ++ into_iter_items l.assertion-iterator ≡ l.fn.assertions;
}
