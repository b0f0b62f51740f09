-- What is left to show of `put_replies`: the lines of one more reply.
use Rattle.std.proofs.Common.{◌++◌, ap, ◌∙◌}
use Rattle.historytext.specs.Layout.{reply_text}
use Rattle.mmwriter.proofs.Pieces.{lines_more}
use Rattle.historytext.proofs.writing.put_replies.Goals as goal

pub loop-reply-preserved : goal.loop-reply-preserved
loop-reply-preserved c =
    let f = reply_text c.args.prelude.now in
    let reply = c.reply-item.result in
    lines_more f c.args.replies.now c.loop-reply.reply-index reply reply c.args.out.now.items c.put_reply.new.out.items
    c.loop-reply-test.true c.reply-item.is (c.in_ok-put_reply.ensures ∙ ap (λ text. text ++ f reply) c.loop-reply.invariant)
