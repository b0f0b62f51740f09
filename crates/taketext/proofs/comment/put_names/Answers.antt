use Rattle.std.proofs.Common.{◌∷◌, [], arith, codes}
use Rattle.taketext.specs.Comments.{name_line}
use Rattle.taketext.proofs.Joined.{counted}
use Rattle.taketext.proofs.comment.put_names.Goals as goal

pub returns : goal.returns
returns c =
    counted (λ p. (p.0.now, p.1)) name_line c.args.names.now c.loop-pair.pair-index c.args.out.now.items c.put_names_count.new.out.items
    c.loop-pair.out.items (codes "   Changed names: ") (10 ∷ [])
    (omega (arith, c.loop-pair-test.false)) c.in_ok-put_names_count.ensures c.loop-pair.invariant
