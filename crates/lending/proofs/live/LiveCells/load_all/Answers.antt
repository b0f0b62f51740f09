use Rattle.std.proofs.Common.{subst}
use Rattle.cells.specs.Sight.{Looks, ReadsNothing}
use Rattle.lending.specs.Lent.{lent_sight}
use Rattle.lending.proofs.Lending.{lending_in, agrees_of, loads_some_lent}
use Rattle.lending.proofs.Sighted.{loads_some}
use Rattle.lending.proofs.live.LiveCells.load_all.Goals as goal

pub invariant_of-self : goal.invariant_of-self
invariant_of-self c =
    let s = c.self.inside in
    (c.self.invariant.0, loads_some_lent (lending_in s) s.stage s.over c.self.invariant.1 c.load_all.new.self c.load_all.ensures.loaded)

pub invariant_of-self-inside : goal.invariant_of-self-inside
invariant_of-self-inside c =
    let s = c.self.inside in
    let lent = loads_some_lent (lending_in s) s.stage s.over c.self.invariant.1 c.load_all.new.self c.load_all.ensures.loaded in
    (∣ agrees_of _ s.stage s.over lent ∣₁, tt)

pub returns-clause-looks : goal.returns-clause-looks
returns-clause-looks c =
    let l = lending_in c.self.inside in
    subst (λ x. Looks (lent_sight x.run) (lent_sight (record l { going = c.load_all.new.self }))) c.self.view_is
    (loads_some l c.load_all.new.self c.load_all.ensures.loaded).0

pub returns-clause-reads : goal.returns-clause-reads
returns-clause-reads c =
    let l = lending_in c.self.inside in
    subst (λ x. ReadsNothing (lent_sight x.run) (lent_sight (record l { going = c.load_all.new.self }))) c.self.view_is
    (loads_some l c.load_all.new.self c.load_all.ensures.loaded).1
