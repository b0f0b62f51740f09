use Rattle.std.proofs.Common.{◌∙◌, inl, inr, sym}
use Rattle.std.proofs.lemmas.Slice.Eq.{bytes_eq-Decides}
use Rattle.outside.proofs.Standing.{adds_compare}
use Rattle.outside.proofs.host.HostWorld.is_one_file.Goals as goal

pub returns-then-eq-clause-told : goal.returns-then-eq-clause-told
returns-then-eq-clause-told g c =
    let equal = (bytes_eq-Decides c.args.one.now c.args.other.now).0 (sym c.eq.ensures ∙ c.if-eq.true) in
    adds_compare _ _ _ _ (inl (equal, c.if-eq.true))

pub returns-else-eq-clause-told : goal.returns-else-eq-clause-told
returns-else-eq-clause-told g c = adds_compare _ _ _ _ (inr c.is_one_file.ensures)
