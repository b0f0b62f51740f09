use Rattle.std.proofs.Common.{sym, subst, inl, inr, ℕ, List}
use Rattle.std.specs.Option.{option_map}
use Rattle.std.specs.Borrow.{Bor}
use Rattle.arranging.specs.Arranged.{IsFrom}
use Rattle.arranging.proofs.Known.{is_listed}
use Rattle.arranging.proofs.checking.Checker.is_from.Goals as goal

pub returns-then-is_as_it_stood : goal.returns-then-is_as_it_stood
returns-then-is_as_it_stood c = λ e source old known stood.
    let moving = is_listed e.moving c.args.self.now.moving.now c.in-Some.label.now c.text_for.result c.is_some.result
    known.known.moving_are c.text_for.ensures c.is_some.ensures c.if-is_some.true in
    subst (λ o. IsFrom e old (option_map (λ (w : Bor (List ℕ)). w.now) o) c.args.coming) (sym c.in-Some.is)
    (moving, inl (c.is_as_it_stood.ensures e source old known stood))

pub returns-else-is_as_it_stood : goal.returns-else-is_as_it_stood
returns-else-is_as_it_stood c = λ e source old known parted.
    let moving = is_listed e.moving c.args.self.now.moving.now c.in-Some.label.now c.text_for.result c.is_some.result
    known.known.moving_are c.text_for.ensures c.is_some.ensures c.if-is_some.true in
    subst (λ o. IsFrom e old (option_map (λ (w : Bor (List ℕ)). w.now) o) c.args.coming) (sym c.in-Some.is)
    (moving, inr (c.is_parted.ensures e source old known parted))
