-- What the loop of `new` keeps.
use Rattle.source.specs.Views.{seen_hypotheses}
use Rattle.prooftrees.specs.Roles.{looks_up, AreRoles}
use Rattle.prooftrees.proofs.roles.Roles.new.Given as goal

abbrev pub invariant-loop-hypothesis : goal.invariant-loop-hypothesis
invariant-loop-hypothesis l = AreRoles (seen_hypotheses l.yielded) (looks_up l.roles) l.premises
