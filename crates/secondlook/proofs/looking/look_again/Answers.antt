-- What is left to show of `look_again`.
use Rattle.std.proofs.Common.{refl, rules}
use Rattle.std.proofs.lemmas.Result.{err_from_is_err_and, IfErr-weaker}
use Rattle.choosing.specs.declared.wish.Wish.TheVariants.{These}
use Rattle.secondlook.specs.Differing.{IsUnlike, IsUnlikeOf}
use Rattle.secondlook.proofs.Differing.{unlike_text}
use Rattle.secondlook.proofs.looking.look_again.Goals as goal

pub take_again-requires-sync-typeof-rt : goal.take_again-requires-sync-typeof-rt
take_again-requires-sync-typeof-rt g c κs within = (search rules, ((refl, tt), c.requires.whole))

pub returns-clause-looked : goal.returns-clause-looked
returns-clause-looked g c out declares = c.compare.ensures.looked c.in_ok-taken.ensures.taken out declares

pub returns-clause-unlike : goal.returns-clause-unlike
returns-clause-unlike g c out declares =
    let edits = c.args.edits in
    let old = g.D.Declared.scope c.args.old.now in
    let new = g.E.Declared.scope c.args.new.now in
    let w = These edits.then edits.axioms in
    IfErr-weaker c.compare.result (IsUnlikeOf old new w edits.changes.now edits.own.now edits.edited.now)
    (IsUnlike old out w edits.changes.now edits.own.now edits.edited.now)
    (unlike_text old w edits.changes.now edits.own.now edits.edited.now out new declares)
    (c.compare.ensures.unlike c.in_ok-taken.ensures.taken)

pub returns-in_err-taken-clause-unlike : goal.returns-in_err-taken-clause-unlike
returns-in_err-taken-clause-unlike g c out declares =
    let edits = c.args.edits in
    let old = g.D.Declared.scope c.args.old.now in
    let new = g.E.Declared.scope c.args.new.now in
    let w = These edits.then edits.axioms in
    let p = err_from_is_err_and c.from_residual.result c.from_residual.ensures.1 in
    rw (p.1, p.2) (unlike_text old w edits.changes.now edits.own.now edits.edited.now out new declares c.in_err-taken.field-0.0
    (c.in_err-taken.ensures.untaken old edits.changes.now edits.own.now edits.edited.now))
