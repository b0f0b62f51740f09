-- What the loop of `put_changes` keeps: the changes so far.
use Rattle.std.proofs.Common.{◌≡◌, ◌++◌, length, take}
use Rattle.std.specs.Prelude.{filter}
use Rattle.std.specs.List.{zip}
use Rattle.source.specs.Views.{seen_pairs, seen_words}
use Rattle.dressing.proofs.Changing.{differs}
use Rattle.dressing.proofs.keeping.put_changes.Given as goal

abbrev pub invariant-loop-old : goal.invariant-loop-old
invariant-loop-old l =
    seen_pairs l.changes.items
    ≡ seen_pairs l.fn.changes.items ++ filter differs (take (length l.yielded) (zip (seen_words l.olds) (seen_words l.news)))
