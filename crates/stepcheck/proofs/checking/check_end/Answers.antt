use Rattle.std.proofs.Common.{◌≡◌, length, [], ◌∷◌, refl, sym, ap, ◌∙◌, arith}
use Rattle.std.proofs.lemmas.Slice.Eq.{slice_eq-Decides}
use Rattle.derivation.proofs.Nodes.{symbol_decides}
use Rattle.stepcheck.proofs.Spans.{last-alone}
use Rattle.stepcheck.proofs.checking.check_end.Goals as goal

pub returns-then-eq-clause-yes : goal.returns-then-eq-clause-yes
returns-then-eq-clause-yes c =
    let one : length c.args.left.now ≡ 1 = omega arith in
    let same = (slice_eq-Decides symbol_decides _ _ _ c.eq.ensures).0 c.if-eq.true in
    last-alone _ _ c.at.result.now one c.last.ensures c.at.ensures ∙ ap (λ x. x ∷ []) (same ∙ c.as_slice.ensures)

pub returns-clause-fault : goal.returns-clause-fault
returns-clause-fault c =
    let one : length c.args.left.now ≡ 1 = omega arith in
    let decides = slice_eq-Decides symbol_decides _ _ _ c.eq.ensures in (
      refl,
      (
        c.at.result.now,
        last-alone _ _ c.at.result.now one c.last.ensures c.at.ensures,
        λ same. let yes = decides.1 (same ∙ sym c.as_slice.ensures) in cc,
      ),
    )
