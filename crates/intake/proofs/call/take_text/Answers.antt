-- What is left to show of `take_text`: the source is whole, and what is refused of it is refused of its text.
use Rattle.std.proofs.Common.{rules, refl}
use Rattle.std.proofs.lemmas.Result.{err_from_is_err_and}
use Rattle.intake.proofs.Steps.{whole_source, refused_by}
use Rattle.intake.proofs.call.take_text.Goals as goal

pub returns-in_err-scopes-clause-refused : goal.returns-in_err-scopes-clause-refused
returns-in_err-scopes-clause-refused g c =
    let p = err_from_is_err_and c.from_residual.result c.from_residual.ensures.1 in
    rw p.1 (λ ne. p.2 c.args.text.now c.args.wish c.in_err-scopes.ensures.fault ne)

pub take_declared-requires-sync-typeof-rt : goal.take_declared-requires-sync-typeof-rt
take_declared-requires-sync-typeof-rt g c κs within = (
  search rules,
  (
    (refl, tt),
    whole_source c.sources_are_whole.ensures c.args.text.now c.in_ok-scopes.scopes.stand.scope c.in_ok-scopes.ensures.found,
  ),
)

pub returns-clause-refused : goal.returns-clause-refused
returns-clause-refused g c =
    refused_by c.args.text.now c.in_ok-scopes.scopes.stand.scope c.args.wish c.take_declared.result c.in_ok-scopes.ensures.found
    c.take_declared.ensures.refused
