-- What is left to show of `not_done_line`.
use Rattle.std.proofs.Common.{◌∙◌, ◌++◌, ap}
use Rattle.serde_json.specs.View.{view}
use Rattle.replylines.specs.ReplyLines.{json_line}
use Rattle.replylines.proofs.lines.not_done_line.Goals as goal

pub returns : goal.returns
returns c =
    c.in_ok-put_value.ensures ∙ ap (λ front. front ++ json_line (view c.in_ok-value.value)) c.new-out.ensures.items
    ∙ ap json_line c.in_ok-value.ensures
