use Rattle.std.proofs.Common.{◌≡◌, ℕ, Option, Some, None, refl, sym, subst}
use Rattle.std.specs.Option.{MatchOption}
use Rattle.transaction.specs.declared.outcome.Record.{Record}
use Rattle.transaction.proofs.attempting.void_record.Goals as goal

pub returns-in-Some : goal.returns-in-Some
returns-in-Some c =
    let void : ℕ → Option Record = λ number. Some (record { number = number; done = None }) in
    let made = void c.in-Some.number in
    subst (λ (d : Option ℕ). MatchOption d (made ≡ None) (λ number. made ≡ void number)) (sym c.in-Some.is) refl
