-- What is left to show of `check_end`.
use Rattle.std.proofs.Common.{◌≡◌, length, [], ◌∷◌, ap, ◌∙◌, arith}
use Rattle.std.proofs.lemmas.Bool.Decides.{Decides-eqb}
use Rattle.std.proofs.lemmas.Slice.Eq.{slice_eq-Decides}
use Rattle.sourcecheck.proofs.Spans.{last-one}
use Rattle.sourcecheck.proofs.stepping.check_end.Goals as goal

pub returns-then-eq : goal.returns-then-eq
returns-then-eq c =
    let es = c.args.stack.now.stack.entries in
    let one : length es ≡ 1 = omega arith in
    let same = (slice_eq-Decides Decides-eqb _ _ _ c.eq.ensures).0 c.if-eq.true in
    last-one es c.last.result c.at.result.now one c.last.ensures c.at.ensures ∙ ap (λ e. e ∷ []) same

pub returns : goal.returns
returns c =
    let es = c.args.stack.now.stack.entries in
    let one : length es ≡ 1 = omega arith in
    let decides = slice_eq-Decides Decides-eqb _ _ _ c.eq.ensures in (
      c.at.result.now,
      last-one es c.last.result c.at.result.now one c.last.ensures c.at.ensures,
      λ same. let yes = decides.1 same in cc,
    )
