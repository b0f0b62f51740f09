use Rattle.lending.proofs.Lending.{lending_in, agrees_of, forgets_lent}
use Rattle.lending.proofs.live.Live.forget.Goals as goal

pub invariant_of-self : goal.invariant_of-self
invariant_of-self c =
    let s = c.self.inside in
    let e = c.forget.ensures in
    (c.self.invariant.0, forgets_lent (lending_in s) s.stage s.over c.self.invariant.1 c.forget.new.self e.forgets e.same)

pub invariant_of-self-inside : goal.invariant_of-self-inside
invariant_of-self-inside c =
    let s = c.self.inside in
    let e = c.forget.ensures in
    let lent = forgets_lent (lending_in s) s.stage s.over c.self.invariant.1 c.forget.new.self e.forgets e.same in
    (∣ agrees_of _ s.stage s.over lent ∣₁, tt)
