-- What the loop of `copies_of` keeps.
use Rattle.std.proofs.Common.{◌≡◌}
use Rattle.source.specs.Views.{seen_hypotheses}
use Rattle.sites.specs.Given.{given_hypotheses}
use Rattle.sites.proofs.given.copies_of.Given as goal

abbrev pub invariant-loop-hypothesis : goal.invariant-loop-hypothesis
invariant-loop-hypothesis l = given_hypotheses l.made.items ≡ seen_hypotheses l.yielded
