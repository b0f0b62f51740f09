-- What the loop of `replies_value` keeps: the texts of the replies so far.
use Rattle.std.proofs.Common.{◌≡◌, map, take}
use Rattle.serde_json.specs.Data.{string}
use Rattle.serde_json.specs.View.{view}
use Rattle.replylines.specs.ReplyLines.{told_reply}
use Rattle.replylines.proofs.replies.replies_value.Given as goal

abbrev pub invariant-loop-reply : goal.invariant-loop-reply
invariant-loop-reply l =
    map view l.list.items ≡ map (λ reply. string (told_reply l.prelude reply)) (take l.reply-index l.replies)
