-- What is left to show of `next_of`.
use Rattle.std.proofs.Common.{ℕ, List, [], Bor, take, sym, subst}
use Rattle.std.proofs.lemmas.List.{map_more}
use Rattle.source.specs.Views.{seen_pairs}
use Rattle.expanding.specs.Bearing.{FindsNew}
use Rattle.expanding.proofs.renamed.next_of.Goals as goal

pub loop-old-preserved : goal.loop-old-preserved
loop-old-preserved c =
    let pairs = c.args.pairs.now in
    let i = c.loop-old.old-index in
    let e : Bor (List ℕ) = record { ref_ptr = (0, 0); now = [] } in
    let d : Bor (List ℕ) × Bor (List ℕ) = (e, e) in
    subst (FindsNew c.put_new.new.next)
    (sym (map_more (λ (p : Bor (List ℕ) × Bor (List ℕ)). (p.0.now, p.1.now)) pairs i d c.loop-old-test.true))
    (c.in_ok-put_new.ensures (seen_pairs (take i pairs)) c.loop-old.invariant)
