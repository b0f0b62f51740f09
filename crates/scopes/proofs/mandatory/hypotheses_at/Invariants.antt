use Rattle.std.proofs.Common.{◌≡◌, map, take}
use Rattle.source.specs.Views.{seen_hypotheses}
use Rattle.scopes.specs.Views.{linked, hypotheses_at}
use Rattle.scopes.proofs.mandatory.hypotheses_at.Given as goal

abbrev pub invariant-loop-number : goal.invariant-loop-number
invariant-loop-number l = seen_hypotheses l.hypotheses.items ≡ hypotheses_at (map linked l.links) (take l.number-index l.numbers)
