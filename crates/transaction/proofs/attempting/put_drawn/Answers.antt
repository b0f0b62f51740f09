use Rattle.std.proofs.Common.{◌≡◌, ◌++◌, ◌∷◌, [], Option, sym, ap, subst}
use Rattle.std.specs.Option.{is_some, MatchOption}
use Rattle.transaction.specs.declared.outcome.Record.{Record}
use Rattle.transaction.proofs.attempting.put_drawn.Goals as goal

pub push_reserved-requires : goal.push_reserved-requires
push_reserved-requires c = c.requires (ap is_some c.in-Some.is)

pub returns-in-Some : goal.returns-in-Some
returns-in-Some c =
    let before = c.args.records.now.items in
    let after = c.push_reserved.new.self.items in
    subst (λ (drawn : Option Record). MatchOption drawn (after ≡ before) (λ own. after ≡ before ++ own ∷ [])) (sym c.in-Some.is)
    c.push_reserved.ensures.items
