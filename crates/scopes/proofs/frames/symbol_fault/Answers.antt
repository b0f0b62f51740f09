-- What is left to show of `symbol_fault`.
use Rattle.source.specs.Views.{seen_words}
use Rattle.scopes.specs.Views.{kept_of, scope_of}
use Rattle.scopes.proofs.frames.symbol_fault.Goals as goal

pub returns-clause-fault : goal.returns-clause-fault
returns-clause-fault c = c.fault_of_symbol.ensures (scope_of (kept_of c.args.tables.now)) c.sort_of-sort.ensures

pub returns-clause-marks : goal.returns-clause-marks
returns-clause-marks c =
    c.mark_float.ensures.marks (scope_of (kept_of c.args.tables.now)).hypotheses (seen_words c.args.others.now)
