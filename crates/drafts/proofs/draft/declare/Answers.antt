-- What is left to show of `declare`.
use Rattle.std.proofs.Common.{sym, ap, subst}
use Rattle.std.proofs.lemmas.Result.{err_from_is_err_and}
use Rattle.mmsyntax.specs.Tables.{Tables}
use Rattle.mmsyntax.specs.Layout.{HasSpelling}
use Rattle.mmsyntax.proofs.Declarable.{prelude_sound}
use Rattle.drafts.specs.Drafts.{tables_of, contents_of}
use Rattle.drafts.specs.Refusals.{told_of}
use Rattle.drafts.proofs.Passed.{unspelled, refusal_told}
use Rattle.drafts.proofs.draft.declare.Goals as goal

pub returns-in-Some-clause-refused : goal.returns-in-Some-clause-refused
returns-in-Some-clause-refused c = λ other h. unspelled (contents_of c.args.draft) c.in-Some.limit c.in-Some.ensures.passed h

pub returns-in_err-prelude-clause-refused : goal.returns-in_err-prelude-clause-refused
returns-in_err-prelude-clause-refused c =
    let p = err_from_is_err_and c.from_residual.result c.from_residual.ensures.1 in
    rw (p.1, p.2)
    (λ other h. c.in_err-prelude.ensures.refused (λ same. other (ap told_of same))
    (prelude_sound (tables_of c.args.draft) c.args.draft.assertions h))

pub returns-in_err-prelude-clause-told : goal.returns-in_err-prelude-clause-told
returns-in_err-prelude-clause-told c =
    let p = err_from_is_err_and c.from_residual.result c.from_residual.ensures.1 in
    rw (p.1, p.2) (refusal_told (contents_of c.args.draft) _ c.in_default.ensures.none)

pub returns-in_err-assertions-clause-refused : goal.returns-in_err-assertions-clause-refused
returns-in_err-assertions-clause-refused c =
    let xs = c.args.draft.assertions in
    let p = err_from_is_err_and c.from_residual-in_err-assertions.result c.from_residual-in_err-assertions.ensures.1 in
    rw (p.1, p.2)
    (λ other h. c.in_err-assertions.ensures.refused (λ same. other (ap told_of same))
    (subst (λ (t : Tables). HasSpelling (record { prelude = t; assertions = xs })) (sym c.in_ok-prelude.ensures.made) h))

pub returns-in_err-assertions-clause-told : goal.returns-in_err-assertions-clause-told
returns-in_err-assertions-clause-told c =
    let p = err_from_is_err_and c.from_residual-in_err-assertions.result c.from_residual-in_err-assertions.ensures.1 in
    rw (p.1, p.2) (refusal_told (contents_of c.args.draft) _ c.in_default.ensures.none)
