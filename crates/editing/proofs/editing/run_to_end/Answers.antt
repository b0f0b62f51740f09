use Rattle.std.proofs.lemmas.Result.{err_from_is_err_and}
use Rattle.transaction.specs.Closings.{lists_of}
use Rattle.editing.proofs.Leaving.{handed_on, leaves, lacks, unrun}
use Rattle.editing.proofs.editing.run_to_end.Goals as goal

pub finish-requires : goal.finish-requires
finish-requires g c =
    handed_on c.args.library c.args.sessions.items c.requires.new c.args.scripts.now (lists_of c.in_ok-outcomes.field-0.outcomes.items)
    c.in_ok-outcomes.field-0.sessions.items c.in_ok-outcomes.ensures.worked c.requires.all

pub returns-in_err-outcomes-clause-lack : goal.returns-in_err-outcomes-clause-lack
returns-in_err-outcomes-clause-lack g c =
    let p = err_from_is_err_and c.from_residual.result c.from_residual.ensures.1 in
    rw (p.1, p.2) (unrun c.args.sessions.items c.in_err-outcomes.field-0.0 c.in_err-outcomes.ensures.lack)

pub returns-in_err-history-clause-lack : goal.returns-in_err-history-clause-lack
returns-in_err-history-clause-lack g c =
    let p = err_from_is_err_and c.from_residual-in_err-history.result c.from_residual-in_err-history.ensures.1 in
    rw (p.1, p.2)
    (lacks c.args.library c.args.sessions.items c.requires.new c.args.scripts.now (lists_of c.in_ok-outcomes.field-0.outcomes.items)
    c.in_ok-outcomes.field-0.sessions.items c.in_ok-outcomes.ensures.worked c.requires.all c.in_err-history.field-0.0
    c.in_err-history.ensures)

pub returns-clause-done : goal.returns-clause-done
returns-clause-done g c =
    leaves c.args.library c.args.sessions.items c.requires.new c.args.scripts.now (lists_of c.in_ok-outcomes.field-0.outcomes.items)
    c.in_ok-outcomes.field-0.sessions.items c.in_ok-outcomes.ensures.worked c.requires.all c.in_ok-history.history c.in_ok-history.library
    c.in_ok-history.ensures
