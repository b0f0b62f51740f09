use Rattle.std.proofs.Common.{◌≡◌, length}
use Rattle.catalog.specs.Citers.{EachAscends}
use Rattle.catalog.proofs.citers.empty_lists.Given as goal

abbrev pub invariant-loop : goal.invariant-loop
invariant-loop l = record { long : length l.citers.items ≡ l.counter; ascending : EachAscends l.citers.items }
