use Rattle.std.proofs.Common.{arith, ◌∙◌, sym, ap, if◌then◌else◌}
use Rattle.claims.proofs.RuleSteps.{claims}
use Rattle.claims.proofs.claimant.Claimant.claim.Goals as goal

pub fetch_add-number-requires : goal.fetch_add-number-requires
fetch_add-number-requires c =
    let sits = c.self.invariant in
    let laid = c.numbers.invariant in
    let key = c.numbers.inside.table.shared.key in (
      ap (λ v. v.table) c.self.view_is ∙ (c.requires.0 ∙ sym (ap (λ v. v.table) c.numbers.view_is)),
      omega (arith, laid.words),
      claims key.count key.claimants _ _ c.self.inside.seat.me sits.one (sits.ended_is ∙ ap (λ b. if b then 1 else 0) c.if-self.false)
          (ap (λ v. v.count) c.self.view_is ∙ (c.requires.1 ∙ sym (ap (λ v. v.count) c.numbers.view_is))),
    )
