use Rattle.trials.proofs.Dealt.{some_session}
use Rattle.trials.proofs.session_work.run.Goals as goal

pub run_scripts-requires-clause-some : goal.run_scripts-requires-clause-some
run_scripts-requires-clause-some g c κs within =
    let opened = c.in-Ok.ensures in
    some_session c.in-Ok.sessions.items _ opened.shape_is.some_sessions opened.names
