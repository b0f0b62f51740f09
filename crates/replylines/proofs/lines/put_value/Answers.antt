-- What is left to show of `put_value`.
use Rattle.std.proofs.Common.{refl}
use Rattle.replylines.proofs.NoFloats.{line_behind}
use Rattle.replylines.proofs.lines.put_value.Goals as goal

pub returns : goal.returns
returns c =
    line_behind _ _ _ _ _ _ _ refl c.requires c.in_ok-text.ensures.text c.as_slice.ensures.value
    c.in_ok-extend_from_slice.ensures.items c.in_ok-push.ensures.items
