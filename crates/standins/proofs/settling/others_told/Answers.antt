-- What is left to show of `others_told`: one more.
use Rattle.std.proofs.Common.{◌∙◌, Bool, sym, ap}
use Rattle.std.specs.Prelude.{is_some}
use mathlib.Core.Bool.{not}
use Rattle.mmtext.specs.Words.{Word}
use Rattle.mmsyntax.proofs.Distinct.{is_some-place_of}
use Rattle.source.specs.Scopes.{is_in}
use Rattle.taking.specs.declared.reason.Reason.{Reason}
use Rattle.taking.specs.Reasons.{told_in}
use Rattle.standins.proofs.Told.{told_next, untold_next}
use Rattle.standins.proofs.settling.others_told.Goals as goal
use Rattle.standins.proofs.settling.others_told.Goals.{then-is_none+in_ok-push, else-is_none}

pub loop-told-preserved : goal.loop-told-preserved
loop-told-preserved c =
    let gone = c.args.released.now in
    let stays : Word × Reason → Bool = λ a. not (is_in gone a.0) in
    let xs = c.args.axioms.now in
    let i = c.loop-told.told-index in
    let made = c.loop-told.made.items in
    let found = ap is_some c.place.ensures.place ∙ is_some-place_of _ gone in
    elim c.if-is_none.branch [
      | then-is_none+in_ok-push w ↦
          told_next stays xs i _ c.loop-told-test.true (ap not (sym found ∙ w.if-is_none.ensures)) made c.if-is_none.made.items
          c.loop-told.invariant (ap (λ v. v.items) w.made-is ∙ w.in_ok-push.ensures.items)
      | else-is_none w ↦
          ap (λ v. told_in v.items) w.made-is
          ∙ untold_next stays xs i _ c.loop-told-test.true (ap not (sym found ∙ w.if-is_none.ensures)) made c.loop-told.invariant
    ]
