-- What is left to show of `follow`.
use Rattle.std.proofs.Common.{◌≡◌, rules}
use Rattle.sourceediting.specs.Following.{behind_all, commands_of}
use Rattle.sourceediting.specs.Views.{seen_following}
use Rattle.sourceediting.proofs.Labels.{entry_more}
use Rattle.sourceediting.proofs.following.Following.follow.Goals as goal
use Rattle.sourceediting.proofs.following.Following.follow.Goals.{in-Done+in_ok-take_all, in_default}

pub loop-entry-preserved : goal.loop-entry-preserved
loop-entry-preserved c =
    let e = c.entry-item.result in
    let so_far = seen_following c.loop-entry.self in
    let next : seen_following c.match-entry.self ≡ behind_all (commands_of e) so_far =
    elim c.match-entry.branch [
      | in-Done+in_ok-take_all w ↦ search rules
      | in_default w ↦ search rules
    ] in
    entry_more c.args.entries.now c.loop-entry.entry-index e
    (seen_following c.args.self.now) so_far _ c.loop-entry-test.true c.entry-item.is
    c.loop-entry.invariant next
