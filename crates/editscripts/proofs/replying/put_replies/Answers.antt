-- What is left to show of `put_replies`.
use Rattle.std.proofs.Common.{◌∙◌, ◌++◌, [], ℕ, List, length, refl, ap}
use Rattle.std.specs.Prelude.{slice_index_or}
use Rattle.std.proofs.lemmas.Option.{slice_get_read}
use Rattle.library.specs.declared.command.Command.{Command}
use Rattle.transaction.specs.declared.outcome.Outcome.{Outcome}
use Rattle.replylines.specs.ReplyLines.{reply_line}
use Rattle.editscripts.proofs.Undoing.{each_next}
use Rattle.editscripts.proofs.replying.put_replies.Goals as goal

pub loop-k-preserved : goal.loop-k-preserved
loop-k-preserved c =
    let t = c.args.prelude.now in
    let w = c.args.told.written in
    let path = c.args.told.path.now in
    let lines = c.args.told.lines.now in
    let script = c.args.script.now in
    let k = c.loop-k.k in
    let outcomes = c.args.outcomes.now in
    let o = c.index-outcomes-k.result in
    let at = slice_get_read outcomes (length outcomes) k o refl c.loop-k-test.true c.index-outcomes-k.is in
    let before = c.loop-k.out.items in
    let F : ℕ → Outcome → List ℕ = λ j outcome. reply_line w t path (slice_index_or lines j 0) (slice_index_or script j []) outcome in
    each_next F outcomes k o at c.loop-k-test.true c.args.out.now.items before _
    (c.in_ok-put_line.ensures
    ∙ ap (λ ls. before ++ ls)
    (ap (λ n. reply_line w t path n c.commands_at-commands.result.now o) c.line_at.ensures
    ∙ ap (λ (cs : List Command). reply_line w t path (slice_index_or lines k 0) cs o) c.commands_at-commands.ensures)) c.loop-k.invariant
