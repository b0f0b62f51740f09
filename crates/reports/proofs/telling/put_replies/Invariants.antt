-- What the loop of `put_replies` keeps.
use Rattle.std.proofs.Common.{◌≡◌, ◌++◌, take}
use Rattle.std.specs.List.{flat_map}
use Rattle.historytext.specs.Layout.{reply_text}
use Rattle.reports.proofs.telling.put_replies.Given as goal

abbrev pub invariant-loop-reply : goal.invariant-loop-reply
invariant-loop-reply l = l.out.items ≡ l.fn.out.items ++ flat_map (reply_text l.prelude) (take l.reply-index l.replies)
