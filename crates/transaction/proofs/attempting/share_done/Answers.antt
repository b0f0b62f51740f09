use Rattle.std.proofs.Common.{◌≡◌, ◌∙◌}
use Rattle.transaction.proofs.attempting.share_done.Goals as goal

pub returns : goal.returns
returns c =
    let made : c.in_ok-replies.replies ≡ c.args.replies = c.in_ok-replies.ensures ∙ c.into_vec.ensures in
    let shared = c.in_ok-share-2.ensures ∙ made in λ j. (made j, (c.in_ok-share.ensures j, shared j))
