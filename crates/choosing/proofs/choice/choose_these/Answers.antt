-- What is left to show of `choose_these`.
use Rattle.std.proofs.Common.{refl}
use Rattle.std.proofs.lemmas.Result.{err_from_is_err_and}
use Rattle.choosing.proofs.Chosen.{these_unknown_first, these_unknown_second, these_are_chosen, these_too_many}
use Rattle.choosing.proofs.choice.choose_these.Goals as goal

pub returns-in_err-chosen-clause-refused : goal.returns-in_err-chosen-clause-refused
returns-in_err-chosen-clause-refused g c =
    let s = g.D.Declared.scope c.args.declared.now in
    let p = err_from_is_err_and c.from_residual.result c.from_residual.ensures.1 in
    rw (p.1, p.2) (λ other. these_unknown_first s c.args.labels c.args.axioms _ (c.in_err-chosen.ensures.refused other))

pub returns-in_err-front-clause-refused : goal.returns-in_err-front-clause-refused
returns-in_err-front-clause-refused g c =
    let s = g.D.Declared.scope c.args.declared.now in
    let p = err_from_is_err_and c.from_residual-in_err-front.result c.from_residual-in_err-front.ensures.1 in
    rw (p.1, p.2) (λ other. these_unknown_second s c.args.labels c.args.axioms _ c.in_ok-chosen.ensures.known
    (c.in_err-front.ensures.refused other))

pub returns-then-count-gt-MOST_ASSERTIONS-clause-refused : goal.returns-then-count-gt-MOST_ASSERTIONS-clause-refused
returns-then-count-gt-MOST_ASSERTIONS-clause-refused g c =
    λ other. these_too_many (g.D.Declared.scope c.args.declared.now) c.args.labels c.args.axioms _ c.in_ok-chosen.ensures.known
    c.in_ok-front.ensures.known refl c.if-count-gt-MOST_ASSERTIONS.true

pub returns-clause-chosen : goal.returns-clause-chosen
returns-clause-chosen g c =
    these_are_chosen (g.D.Declared.scope c.args.declared.now) c.args.labels c.args.axioms _ _ c.in_ok-chosen.ensures.marked
    c.in_ok-front.ensures.marked c.in_ok-chosen.ensures.known c.in_ok-front.ensures.known refl c.if-count-gt-MOST_ASSERTIONS.false
