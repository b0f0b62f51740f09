-- What the loop of `open` keeps.
use Rattle.std.proofs.Common.{◌≡◌, ◌≤◌, ◌++◌, length, map, reverse, drop}
use Rattle.sourcewriting.specs.Walked.{visit}
use Rattle.sourcewriting.proofs.walking.NodeWalk.open.Given as goal

abbrev pub invariant-loop-left : goal.invariant-loop-left
invariant-loop-left l = record {
  puts : l.self.puts ≡ l.initial.self.puts;
  opened : l.self.opened ≡ l.initial.self.opened;
  tasks : l.self.tasks.items ≡ l.initial.self.tasks.items ++ reverse (map visit (drop l.left l.arguments));
  within : l.left ≤ length l.arguments;
}

abbrev pub decreases-loop-left : goal.decreases-loop-left
decreases-loop-left l = l.left
