-- What the loop of `replies_with` keeps: what became of the transactions of the scripts so far.
use Rattle.std.proofs.Common.{◌≡◌, take, map}
use Rattle.transaction.specs.Closings.{lists_of}
use Rattle.editscripts.specs.Replies.{all_replies}
use Rattle.editscripts.specs.Views.{seen_texts, beginnings_of}
use Rattle.editscripts.proofs.replying.replies_with.Given as goal

abbrev pub invariant-loop-n : goal.invariant-loop-n
invariant-loop-n l =
    l.out.items
    ≡ all_replies l.written l.prelude (map (λ p. p.now) l.run.paths.now) (seen_texts l.run.texts.now) (beginnings_of l.run.laid.now)
    l.run.scripts.now (lists_of (take l.n l.run.rows.now))
