-- What is left to show of `add`.
use Rattle.std.proofs.Common.{◌≡◌, ℕ, true, cond, ap, ◌∙◌}
use Rattle.std.specs.Prelude.{◌&&◌, ◌==◌}
use Rattle.sourceframes.specs.Pairs.{ordered, finds}
use Rattle.sourceframes.proofs.Ordered.{later, ordered_same}
use Rattle.sourceframes.proofs.pairs.add.Goals as goal

pub returns : goal.returns
returns c = λ u v.
    let p = c.args.pair in
    let q = ordered u v in
    let old = finds c.args.found.now u v in
    let put : finds c.insert.new.self u v ≡ cond ((c.ordered.result.0 == q.0) && (c.ordered.result.1 == q.1)) true old =
    c.in_ok-insert.ensures.updates.0 q in
    put ∙ ap (λ (r : ℕ × ℕ). cond ((r.0 == q.0) && (r.1 == q.1)) true old) c.ordered.ensures
    ∙ ap (λ b. cond b true old) (ordered_same p.0 p.1 u v) ∙ later old _
