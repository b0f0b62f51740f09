-- What is left to show of `verify_text`: a source is whole, and the fault of a text refuses it.
use Rattle.std.proofs.lemmas.Result.{err_from_is_err_and}
use Rattle.verifytext.proofs.verifying_text.verify_text.Goals as goal

pub returns-in_err-scopes-clause-refused : goal.returns-in_err-scopes-clause-refused
returns-in_err-scopes-clause-refused g c =
    let p = err_from_is_err_and c.from_residual.result c.from_residual.ensures.1 in
    rw p.1 (p.2 c.args.text.now c.in_err-scopes.ensures.fault)

pub verify_read-requires-after_bounds : goal.verify_read-requires-after_bounds
verify_read-requires-after_bounds g c κs within =
    let declares = c.in_ok-scopes.ensures.found in
    c.sources_are_whole.ensures declares.statements c.in_ok-scopes.scopes.stand.scope declares.declared

pub returns-clause-verified : goal.returns-clause-verified
returns-clause-verified g c = c.verify_read.ensures.verified c.args.text.now c.in_ok-scopes.ensures.found

pub returns-clause-refused : goal.returns-clause-refused
returns-clause-refused g c = c.verify_read.ensures.refused c.args.text.now c.in_ok-scopes.ensures.found
