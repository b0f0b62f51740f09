use Rattle.std.proofs.Common.{Some, take, ◌≡◌}
use Rattle.tlcore.specs.Schedules.{run}
use Rattle.tlcore.proofs.schedules.run_schedule.Given as goal

-- the events so far are lawful, and lead to the world now
abbrev pub invariant-loop-event : goal.invariant-loop-event
invariant-loop-event l = record {
  counted : l.took ≡ l.event-index;
  ran : run (take l.event-index l.events) l.fn.world ≡ Some l.now;
}
