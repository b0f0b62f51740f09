-- What the loop of `put_done` keeps: those that were done of the descriptions so far.
use Rattle.std.proofs.Common.{◌≡◌, ◌++◌, take, map}
use Rattle.source.specs.Views.{seen_pairs}
use Rattle.expanding.specs.InFront.{seen_described}
use Rattle.editscripts.specs.Described.{done_of}
use Rattle.editscripts.proofs.described.put_done.Given as goal

abbrev pub invariant-loop-one : goal.invariant-loop-one
invariant-loop-one l =
    seen_pairs l.made.items ≡ seen_pairs l.fn.made.items ++ done_of l.row (map seen_described (take l.one-index l.described))
