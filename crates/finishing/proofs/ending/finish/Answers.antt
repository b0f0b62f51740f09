use Rattle.finishing.proofs.ending.finish.Goals as goal

pub returns : goal.returns
returns c = c.conclude.ensures c.args.library c.args.sessions.items c.in_ok-closed.ensures.closed
