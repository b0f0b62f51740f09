use Rattle.std.proofs.Common.{◌∷◌, [], arith, codes}
use Rattle.taketext.specs.Comments.{axiom_line}
use Rattle.taketext.proofs.Joined.{counted}
use Rattle.taketext.proofs.comment.put_axioms.Goals as goal

pub returns : goal.returns
returns c =
    counted (λ p. (p.0.now, p.1)) axiom_line c.args.axioms.now c.loop-pair.pair-index c.args.out.now.items c.put_axioms_count.new.out.items
    c.loop-pair.out.items (codes "   Theorems taken as axioms, their proofs unchecked: ") (10 ∷ [])
    (omega (arith, c.loop-pair-test.false)) c.in_ok-put_axioms_count.ensures c.loop-pair.invariant
