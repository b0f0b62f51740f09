-- What is left to show of `texts_of`.
use Rattle.std.proofs.lemmas.Result.{err_from_is_err_and}
use Rattle.sourceediting.specs.Views.{edition_of}
use Rattle.sourceediting.proofs.PutIn.{spelled_as, turned}
use Rattle.sourceediting.proofs.rearranging.texts_of.Goals as goal

pub returns-in_err-put_moved-clause-refused : goal.returns-in_err-put_moved-clause-refused
returns-in_err-put_moved-clause-refused g c = λ living text.
    let p = err_from_is_err_and c.from_residual-in_err-put_moved.result c.from_residual-in_err-put_moved.ensures.1 in
    rw (p.1, p.2) (c.in_err-put_moved.ensures.refused living text)

pub returns-in_err-put_added-clause-refused : goal.returns-in_err-put_added-clause-refused
returns-in_err-put_added-clause-refused g c = λ living text.
    let p = err_from_is_err_and c.from_residual-in_err-put_added.result c.from_residual-in_err-put_added.ensures.1 in
    rw (p.1, p.2) (c.in_err-put_added.ensures.refused living text)

pub returns-in_err-put_moved-clause-unwritten : goal.returns-in_err-put_moved-clause-unwritten
returns-in_err-put_moved-clause-unwritten g c = λ are known.
    let p = err_from_is_err_and c.from_residual-in_err-put_moved.result c.from_residual-in_err-put_moved.ensures.1 in
    let planned = c.args.edits.now.planned in
    let tables = c.prelude-prelude.result.now in
    let spelled = spelled_as (edition_of planned) c.in_ok-words.words _ tables (turned planned.names.now) c.prelude-prelude.ensures
    c.in_ok-words.ensures in
    rw (p.1, p.2)
    (c.in_err-put_moved.ensures.unwritten
    (record { told = are.told; finds = are.finds; prelude = c.prelude.ensures; spelled = spelled }) known)

pub returns-in_err-put_added-clause-unwritten : goal.returns-in_err-put_added-clause-unwritten
returns-in_err-put_added-clause-unwritten g c = λ are known.
    let p = err_from_is_err_and c.from_residual-in_err-put_added.result c.from_residual-in_err-put_added.ensures.1 in
    let planned = c.args.edits.now.planned in
    let tables = c.prelude-prelude.result.now in
    let spelled = spelled_as (edition_of planned) c.in_ok-words.words _ tables (turned planned.names.now) c.prelude-prelude.ensures
    c.in_ok-words.ensures in
    rw (p.1, p.2)
    (c.in_err-put_added.ensures.unwritten
    (record { told = are.told; finds = are.finds; prelude = c.prelude.ensures; spelled = spelled }))
