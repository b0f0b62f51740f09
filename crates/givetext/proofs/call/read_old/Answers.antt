-- What is left to show of `read_old`.
use Rattle.std.proofs.Common.{◌≢◌, ap}
use Rattle.std.proofs.lemmas.Result.{IfErr-at_err, err_from_is_err_and}
use Rattle.mmtext.specs.declared.fault.TextFault.{TextFault}
use Rattle.mmtext.specs.declared.fault.FaultKind.TheVariants.{NoMemory}
use Rattle.mmtext.specs.Views.{seen_by}
use Rattle.scopes.specs.declared.scopes.Scopes.{Scopes}
use Rattle.source.specs.Faults.{FaultySource}
use Rattle.givetext.proofs.call.read_old.Goals as goal

pub returns-in_err-read_source-clause-refused : goal.returns-in_err-read_source-clause-refused
returns-in_err-read_source-clause-refused g c =
    let p = err_from_is_err_and c.from_residual.result c.from_residual.ensures.1 in
    let was = ap (seen_by (λ (s : Scopes). s.stand.scope)) c.in_err-read_source.was in
    let faulty = IfErr-at_err (λ (f : TextFault). f.kind ≢ NoMemory → FaultySource c.args.source.now f) was
    c.read_source.ensures.fault in
    rw p.1 (p.2 c.args.source.now faulty)
