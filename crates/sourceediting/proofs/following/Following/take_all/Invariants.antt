-- What the loop of `take_all` keeps.
use Rattle.std.proofs.Common.{◌≡◌, take}
use Rattle.sourceediting.specs.Following.{behind_all}
use Rattle.sourceediting.specs.Views.{seen_following}
use Rattle.sourceediting.proofs.following.Following.take_all.Given as goal

-- behind the commands so far
abbrev pub invariant-loop-command : goal.invariant-loop-command
invariant-loop-command l = seen_following l.self ≡ behind_all (take l.command-index l.commands) (seen_following l.initial.self)
