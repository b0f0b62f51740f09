-- What the loop of `undone` keeps: the lines of the scripts so far.
use Rattle.std.proofs.Common.{◌≡◌, take, map}
use Rattle.std.specs.Prelude.{string_bytes}
use Rattle.transaction.specs.Closings.{lists_of}
use Rattle.editscripts.specs.Undone.{all_undone}
use Rattle.editscripts.specs.Views.{seen_texts, beginnings_of}
use Rattle.editscripts.proofs.lacking.undone.Given as goal

abbrev pub invariant-loop-n : goal.invariant-loop-n
invariant-loop-n l =
    map string_bytes l.said.items
    ≡ all_undone (map (λ p. p.now) l.run.paths.now) (seen_texts l.run.texts.now) (beginnings_of l.run.laid.now) l.run.scripts.now
    (lists_of (take l.n l.run.rows.now))
