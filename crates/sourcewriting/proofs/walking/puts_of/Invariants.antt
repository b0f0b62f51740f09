-- What the loop of `puts_of` keeps.
use Rattle.std.proofs.Common.{◌<◌, length, reverse}
use Rattle.sourcewriting.specs.Nodes.{AreNodes}
use Rattle.sourcewriting.specs.Walked.{IsWalking, work_left}
use Rattle.sourcewriting.proofs.walking.puts_of.Given as goal

abbrev pub invariant-loop-task : goal.invariant-loop-task
invariant-loop-task l =
    AreNodes l.shared → l.root < length l.shared.nodes.items
    → IsWalking l.shared l.walk.puts.items l.walk.opened.items (reverse l.walk.tasks.items)

abbrev pub decreases-loop-task : goal.decreases-loop-task
decreases-loop-task l = work_left l.shared l.walk
