use Rattle.std.proofs.lemmas.Slice.Eq.{slice_eq-Decides}
use Rattle.derivation.proofs.Nodes.{symbol_decides}
use Rattle.history.proofs.same.same_expression.Goals as goal

pub returns : goal.returns
returns c =
    let d = slice_eq-Decides symbol_decides c.as_slice.result.now c.as_slice-2.result.now c.eq.result c.eq.ensures in
    (λ h. let e = d.0 h in cc, λ h. d.1 cc)
