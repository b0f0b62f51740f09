-- What the loop of `follow` keeps.
use Rattle.std.proofs.Common.{◌≡◌, take}
use Rattle.sourceediting.specs.Following.{behind_all, all_commands}
use Rattle.sourceediting.specs.Views.{seen_following}
use Rattle.sourceediting.proofs.following.Following.follow.Given as goal

-- behind the entries so far
abbrev pub invariant-loop-entry : goal.invariant-loop-entry
invariant-loop-entry l = seen_following l.self ≡ behind_all (all_commands (take l.entry-index l.entries)) (seen_following l.initial.self)
