-- What is left to show of `check_source`.
use Rattle.std.proofs.Common.{ℕ, ◌<◌, length, subst}
use Rattle.std.specs.Prelude.{Option}
use Rattle.derivation.specs.declared.fault.ProofFault.{ProofFault}
use Rattle.sourcecheck.specs.Checkers.{IsFoundAmong}
use Rattle.sourcecheck.proofs.Beside.{none_found, one_found}
use Rattle.sourcecheck.proofs.sources.check_source.Goals as goal

pub returns-in-Ok-Some-clause-refused : goal.returns-in-Ok-Some-clause-refused
returns-in-Ok-Some-clause-refused g c =
    let s = c.args.declared.now.stand.scope in
    one_found s c.in-Ok-Some.place c.in-Ok-Some.fault c.refusal_at.result c.requires
    (subst (λ (o : Option (ℕ × ProofFault)). IsFoundAmong s.assertions (λ k. k < length s.assertions) o) c.in-Ok-Some.field-0-is
    c.in-Ok-Some.ensures) c.refusal_at.ensures

pub returns-in-Ok-None-clause-verified : goal.returns-in-Ok-None-clause-verified
returns-in-Ok-None-clause-verified g c =
    let s = c.args.declared.now.stand.scope in
    none_found s
    (subst (λ (o : Option (ℕ × ProofFault)). IsFoundAmong s.assertions (λ k. k < length s.assertions) o) c.in-Ok-None.field-0-is
    c.in-Ok-None.ensures)
