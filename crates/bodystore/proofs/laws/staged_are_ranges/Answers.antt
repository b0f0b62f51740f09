-- The laws `staged_are_ranges` are lemmas.
use Rattle.bodystore.proofs.Staging.{staged_go_on, nothing_staged, noting_keeps, found_is_staged}
use Rattle.bodystore.proofs.laws.staged_are_ranges.Goals as goal

pub returns-clause-go_on : goal.returns-clause-go_on
returns-clause-go_on c = staged_go_on

pub returns-clause-nothing : goal.returns-clause-nothing
returns-clause-nothing c = nothing_staged

pub returns-clause-noting : goal.returns-clause-noting
returns-clause-noting c = noting_keeps

pub returns-clause-found : goal.returns-clause-found
returns-clause-found c = found_is_staged
