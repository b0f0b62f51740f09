-- What the loop of `free_labels` keeps: the free candidates so far, and not too many.
use Rattle.std.proofs.Common.{◌≡◌, ◌≤◌, length}
use mathlib.Core.Bool.{not}
use Rattle.source.specs.Scopes.{is_in}
use Rattle.standins.specs.StandIns.{candidate}
use Rattle.standins.proofs.Candidates.{passing}
use Rattle.standins.proofs.labels.free_labels.Given as goal

abbrev pub invariant-loop-number : goal.invariant-loop-number
invariant-loop-number l = record {
  so_far : l.made.items ≡ passing (λ w. not (is_in l.words w)) candidate l.number;
  few : length l.made.items ≤ l.count;
}
