-- What is left to show of `type_fault`.
use Rattle.scopes.specs.Views.{kept_of, scope_of}
use Rattle.scopes.proofs.faults.type_fault.Goals as goal

pub returns : goal.returns
returns c = c.fault_of_type.ensures (scope_of (kept_of c.args.tables.now)) c.sort_of.ensures
