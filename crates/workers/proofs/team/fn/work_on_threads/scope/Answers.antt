use Rattle.std.proofs.Common.{map}
use Rattle.std.proofs.lemmas.Result.{IfOk-weaker}
use Rattle.workers.proofs.Teams.{shifts_kept}
use Rattle.workers.proofs.team.fn.work_on_threads.scope.Goals as goal

pub returns : goal.returns
returns g c =
    let promises = map (λ h. h.promise) c.in_ok-handles.handles.items in
    IfOk-weaker c.wait_for_all.result _ _
    (λ shifts kept.
    shifts_kept c.captures.scripts.now c.captures.sessions.items c.captures.claimants.items promises shifts.items c.in_ok-handles.ensures
    kept)
    c.wait_for_all.ensures
