use Rattle.std.proofs.Common.{◌≡◌, ◌-◌, arith, ◌∙◌, sym, ap}
use Rattle.claims.proofs.RuleSteps.{deals}
use Rattle.claims.proofs.opening.deal_all.Goals as goal

pub split_seat-requires : goal.split_seat-requires
split_seat-requires c =
    let i = c.loop.invariant in
    let laid = c.numbers.invariant in
    let key = c.numbers.inside.table.shared.key in
    let parts : c.loop.seat.me.0.parts ≡ c.args.claimants - c.loop.counter = ap (λ m. m.0.parts) i.left in
    let left = c.loop-test.true in (
      i.table ∙ (c.requires.table ∙ sym (ap (λ v. v.table) c.numbers.view_is)),
      omega (arith, laid.words),
      deals key.count key.claimants _ c.loop.seat.me.0 (omega (arith, parts, left))
          (ap (λ m. m.0.claimed) i.left) (ap (λ m. m.0.ended) i.left),
    )
