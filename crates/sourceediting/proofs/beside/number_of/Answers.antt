-- What is left to show of `number_of`.
use Rattle.std.proofs.Common.{◌∙◌, sym, ap, arith}
use Rattle.library.specs.declared.library.Ranked.{Ranked}
use Rattle.mmsyntax.proofs.Names.{same_bytes}
use Rattle.sourceediting.proofs.Numbered.{numbered}
use Rattle.sourceediting.proofs.beside.number_of.Goals as goal

pub returns-then-eq-clause-numbered : goal.returns-then-eq-clause-numbered
returns-then-eq-clause-numbered c =
    let entry = c.index-entries-number in
    numbered c.args.entries.now c.loop-number.number entry.result c.args.label.now (omega (arith, c.loop-number-test.true)) entry.is
    (ap (λ (r : Ranked). r.assertion.label) entry.is
    ∙ (sym c.as_slice.ensures ∙ same_bytes c.as_slice.result.now c.args.label.now (sym c.eq.ensures ∙ c.if-eq.true)))
