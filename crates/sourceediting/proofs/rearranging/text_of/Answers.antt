-- What is left to show of `text_of`.
use Rattle.std.proofs.Common.{◌≡◌, refl, sym, subst}
use Rattle.std.specs.Prelude.{Option, IsTrue, is_some}
use Rattle.sourcewriting.specs.declared.adding.Written.{Written}
use Rattle.sourceediting.specs.PutIn.{CanBePutIn}
use Rattle.sourceediting.specs.Refusals.{OnUnwritten}
use Rattle.sourceediting.proofs.PutIn.{written_where}
use Rattle.sourceediting.proofs.Unwritten.{clash}
use Rattle.sourceediting.proofs.rearranging.text_of.Goals as goal

pub returns-in_ok-unwritten-in-None-clause-unwritten : goal.returns-in_ok-unwritten-in-None-clause-unwritten
returns-in_ok-unwritten-in-None-clause-unwritten g c = λ e living voc.
    let s = g.D.Declared.scope c.args.declared.now in
    let x = c.args.statement.now in
    let cannot : CanBePutIn s e living x.is_compressed x.label.now x.assertion.now → ⊥ = λ can.
    clash
    (subst (λ (o : Option Written). IsTrue (is_some o)) c.in-None.is
    (c.in_ok-text.ensures (written_where s e living c.args.vocabulary.now voc x can))) in
    subst
    (OnUnwritten (λ label. (x.assertion.now.label ≡ label) × (CanBePutIn s e living x.is_compressed x.label.now x.assertion.now → ⊥)))
    (sym c.in_ok-unwritten-in-None.ensures) (refl, cannot)
