-- What is left to show of `named_by`: a label that passes its tests names something.
use Rattle.std.proofs.Common.{◌∙◌, sym}
use Rattle.scopes.specs.Views.{kept_of, scope_of}
use Rattle.scopes.proofs.Named.{names_some}
use Rattle.scopes.proofs.labels.named_by.Goals as goal

pub unreachable-requires : goal.unreachable-requires
unreachable-requires c =
    let s = scope_of (kept_of c.args.tables.now) in
    names_some s c.args.word.now (sym (c.fault_of_named.ensures s c.requires.sort) ∙ c.in_default.is) (sym c.citation_of.ensures
    ∙ c.in-None.is)

pub returns-in-Some-clause-fault : goal.returns-in-Some-clause-fault
returns-in-Some-clause-fault c =
    sym c.in-Some.is ∙ c.fault_of_named.ensures (scope_of (kept_of c.args.tables.now)) c.requires.sort
