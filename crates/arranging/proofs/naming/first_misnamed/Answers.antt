-- What is left to show of `first_misnamed`.
use Rattle.std.proofs.Common.{All, sym, subst, take}
use Rattle.std.proofs.lemmas.List.{take_all, take_more}
use Rattle.std.proofs.lemmas.List.Elements.{All-push}
use Rattle.arranging.specs.Arranged.{label_in_source}
use Rattle.arranging.specs.Named.{IsNamedFrom}
use Rattle.arranging.specs.declared.coming.Coming.{Coming}
use Rattle.arranging.proofs.naming.first_misnamed.Goals as goal

pub loop-number-preserved : goal.loop-number-preserved
loop-number-preserved c =
    let cs = c.args.comings.now in
    let i = c.loop-number.number in
    let P = λ (d : Coming). IsNamedFrom c.args.changes.now d (label_in_source d) in
    subst (All P) (sym (take_more cs i _ c.loop-number-test.true))
    (All-push P (take i cs) _ c.loop-number.invariant (c.in_ok-is_named_then.ensures c.if-not-branch.false))

pub returns-clause-named : goal.returns-clause-named
returns-clause-named c =
    subst (All (λ (d : Coming). IsNamedFrom c.args.changes.now d (label_in_source d)))
    (take_all c.loop-number.number c.args.comings.now c.loop-number-test.false) c.loop-number.invariant
