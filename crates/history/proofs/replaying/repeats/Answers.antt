use Rattle.history.proofs.Differing.{repeated_where_same}
use Rattle.history.proofs.replaying.repeats.Goals as goal

pub returns-in-Ok-clause-same : goal.returns-in-Ok-clause-same
returns-in-Ok-clause-same c =
    rw c.in-Done.is (
    repeated_where_same c.args.editor.now.setting c.args.editor.now.library c.apply.new.self.library c.as_slice.result.now
    c.in-Done.commands
    c.in-Ok.made c.as_slice-in-Ok.result.now c.in-Done.replies c.as_slice-in-Ok-2.result.now c.same_replies.result
    c.in-Ok.ensures.0 c.as_slice.ensures c.as_slice-in-Ok.ensures c.as_slice-in-Ok-2.ensures c.same_replies.ensures
    )
