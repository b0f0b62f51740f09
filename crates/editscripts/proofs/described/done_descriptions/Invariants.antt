-- What the loop of `done_descriptions` keeps: those of the scripts so far.
use Rattle.std.proofs.Common.{◌≡◌, length, take}
use Rattle.std.specs.List.{flat_map, zip}
use Rattle.source.specs.Views.{seen_pairs}
use Rattle.transaction.specs.Closings.{lists_of}
use Rattle.editscripts.specs.Described.{done_of}
use Rattle.editscripts.specs.Views.{seen_descriptions}
use Rattle.editscripts.proofs.described.done_descriptions.Given as goal

abbrev pub invariant-loop-row : goal.invariant-loop-row
invariant-loop-row l =
    seen_pairs l.made.items
    ≡ flat_map (λ p. done_of p.0 p.1) (take (length l.yielded) (zip (lists_of l.rows) (seen_descriptions l.all)))
