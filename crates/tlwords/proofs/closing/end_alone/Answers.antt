use Rattle.std.proofs.Common.{arith, ◌∙◌, ap, sym, subst, length, List, ℕ}
use Rattle.tlwords.specs.Closing.{AreGathered}
use Rattle.tlwords.proofs.Ends.{closes_alone}
use Rattle.tlwords.proofs.closing.end_alone.Goals as goal

pub returns-clause-closes : goal.returns-clause-closes
returns-clause-closes g c =
    let f = c.close.ensures.values.2 in
    let k = c.close.ensures.counts.0 in
    let n = c.close.result.words.ok.0 in
    λ cells x laid h.
    closes_alone g.L.Law.terms _ _ _ _ f.0 f.1 cells x (ap length f.2 ∙ omega (arith, k, n, laid))
    (subst (λ (words : List ℕ). AreGathered words cells c.args.table.shared.key.room x) (sym f.2) h) c.requires
