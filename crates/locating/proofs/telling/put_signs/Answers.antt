-- What is left to show of `put_signs`.
use Rattle.std.proofs.Common.{◌∙◌, ◌++◌, ap, string_bytes}
use Rattle.locating.proofs.Signs.{once_more}
use Rattle.locating.proofs.telling.put_signs.Goals as goal

pub loop-preserved : goal.loop-preserved
loop-preserved c =
    c.in_ok-push_str.ensures.bytes
    ∙ ap (λ bs. bs ++ c.args.sign.now) c.loop.invariant
    ∙ once_more c.loop.counter c.args.sign.now (string_bytes c.args.out.now)
