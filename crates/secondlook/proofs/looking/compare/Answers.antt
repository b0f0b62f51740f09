-- What is left to show of `compare`.
use Rattle.std.proofs.Common.{◌∙◌, length, ap, refl}
use Rattle.std.proofs.lemmas.Result.{on_ok_weaker, err_from_is_err_and, IfErr-weaker}
use Rattle.choosing.specs.declared.wish.Wish.TheVariants.{These}
use Rattle.secondlook.specs.Compared.{IsNotStaying}
use Rattle.secondlook.specs.Differing.{IsUnlikeOf}
use Rattle.secondlook.proofs.Differing.{other_library, other_assertion}
use Rattle.giving.specs.Staying.{StayAll, others}
use Rattle.secondlook.proofs.Looked.{looked_at}
use Rattle.secondlook.proofs.looking.compare.Goals as goal

pub stay-requires : goal.stay-requires
stay-requires g c κs = ((refl, tt), (c.requires.own, ap length c.as_slice.ensures.value ∙ c.in_ok-own.ensures.many))

pub returns-clause-looked : goal.returns-clause-looked
returns-clause-looked g c l out declares =
    let old = g.D.Declared.scope c.args.old.now in
    let new = g.E.Declared.scope c.args.new.now in
    let taken = c.args.taken.now in
    let edits = c.args.edits in
    let flags = c.as_slice.result.now in
    let are = c.as_slice.ensures.value ∙ c.in_ok-own.ensures.flags l.taken.choice l.chosen_are in
    on_ok_weaker c.stay.result
    (λ (stay : StayAll edits.changes.now (others edits.own.now old.assertions) (others flags new.assertions)).
    looked_at new edits.then edits.axioms taken l flags are old out edits.changes.now edits.own.now edits.edited.now declares
    c.in_ok-is_edited.ensures.floats c.in_ok-is_edited.ensures.same stay) c.stay.ensures.stay

pub returns-in_err-is_edited-clause-unlike : goal.returns-in_err-is_edited-clause-unlike
returns-in_err-is_edited-clause-unlike g c = λ l.
    let edits = c.args.edits in
    let p = err_from_is_err_and c.from_residual.result c.from_residual.ensures.1 in
    rw (p.1, p.2) (other_library (g.D.Declared.scope c.args.old.now) (These edits.then edits.axioms) edits.changes.now edits.own.now
    edits.edited.now (g.E.Declared.scope c.args.new.now) c.args.taken.now l c.in_err-is_edited.field-0.0
    c.in_err-is_edited.ensures.other)

pub returns-clause-unlike : goal.returns-clause-unlike
returns-clause-unlike g c = λ l.
    let old = g.D.Declared.scope c.args.old.now in
    let new = g.E.Declared.scope c.args.new.now in
    let edits = c.args.edits in
    let w = These edits.then edits.axioms in
    let flags = c.as_slice.result.now in
    let are = c.as_slice.ensures.value ∙ c.in_ok-own.ensures.flags l.taken.choice l.chosen_are in
    IfErr-weaker c.stay.result (IsNotStaying edits.changes.now (others edits.own.now old.assertions) (others flags new.assertions))
    (IsUnlikeOf old new w edits.changes.now edits.own.now edits.edited.now)
    (other_assertion old w edits.changes.now edits.own.now edits.edited.now new c.args.taken.now l flags are) c.stay.ensures.other
