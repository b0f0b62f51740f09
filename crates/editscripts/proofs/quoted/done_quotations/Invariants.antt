-- What the loop of `done_quotations` keeps: those of the scripts so far.
use Rattle.std.proofs.Common.{◌≡◌, length, map, take}
use Rattle.std.specs.List.{flat_map, zip}
use Rattle.pasting.specs.Views.{seen_quotation}
use Rattle.transaction.specs.Closings.{lists_of}
use Rattle.editscripts.specs.Quoted.{quoted_of}
use Rattle.editscripts.specs.Views.{seen_quotes}
use Rattle.editscripts.proofs.quoted.done_quotations.Given as goal

abbrev pub invariant-loop-row : goal.invariant-loop-row
invariant-loop-row l =
    map seen_quotation l.made.items
    ≡ flat_map (λ p. quoted_of p.0 p.1) (take (length l.yielded) (zip (lists_of l.rows) (seen_quotes l.all)))
