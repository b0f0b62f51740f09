-- What the loop of `put_done` keeps: those that were done of the proofs so far.
use Rattle.std.proofs.Common.{◌≡◌, ◌++◌, take, map}
use Rattle.pasting.specs.Views.{seen_quotation, seen_quote}
use Rattle.editscripts.specs.Quoted.{quoted_of}
use Rattle.editscripts.proofs.quoted.put_done.Given as goal

abbrev pub invariant-loop-quote : goal.invariant-loop-quote
invariant-loop-quote l =
    map seen_quotation l.made.items
    ≡ map seen_quotation l.fn.made.items ++ quoted_of l.row (map seen_quote (take l.quote-index l.quotes))
