use Rattle.std.proofs.Common.{◌<◌, ◌≡◌, ℕ, true, sym, subst}
use Rattle.ranges.specs.Ranges.{Names}
use Rattle.cells.specs.Slots.{cell_count, is_ranged}
use Rattle.cells.specs.Sight.{WasRead, Writes}
use Rattle.lending.specs.Lent.{lent_sight}
use Rattle.lending.proofs.Lending.{lending_in, agrees_of, base_count, writes_lent}
use Rattle.lending.proofs.Sighted.{writes_sight}
use Rattle.lending.proofs.live.LiveCells.write.Goals as goal

pub write-requires-clause-cell : goal.write-requires-clause-cell
write-requires-clause-cell c =
    let s = c.self.inside in
    subst (λ (n : ℕ). c.args.cell < n) (sym (base_count (lending_in s) s.stage s.over c.self.invariant.1))
    (subst (λ x. c.args.cell < cell_count (lent_sight x.run).setting.slots) (sym c.self.view_is) c.requires.cell)

pub invariant_of-self : goal.invariant_of-self
invariant_of-self c =
    let s = c.self.inside in
    let e = c.write.ensures in (
      c.self.invariant.0,
      writes_lent (lending_in s) s.stage s.over c.self.invariant.1 c.args.cell c.args.value c.write.new.self e.kept e.same
          (subst (λ x. WasRead (lent_sight x.run) c.args.cell) (sym c.self.view_is) c.requires.read)
          (subst (λ x. is_ranged (lent_sight x.run).setting.slots c.args.cell ≡ true → Names (lent_sight x.run).ranges c.args.value)
          (sym c.self.view_is) c.requires.named),
    )

pub invariant_of-self-inside : goal.invariant_of-self-inside
invariant_of-self-inside c =
    let s = c.self.inside in
    let e = c.write.ensures in
    let lent = writes_lent (lending_in s) s.stage s.over c.self.invariant.1 c.args.cell c.args.value c.write.new.self e.kept e.same
    (subst (λ x. WasRead (lent_sight x.run) c.args.cell) (sym c.self.view_is) c.requires.read)
    (subst (λ x. is_ranged (lent_sight x.run).setting.slots c.args.cell ≡ true → Names (lent_sight x.run).ranges c.args.value)
    (sym c.self.view_is) c.requires.named) in
    (∣ agrees_of _ s.stage s.over lent ∣₁, tt)

pub returns : goal.returns
returns c =
    let l = lending_in c.self.inside in
    subst (λ x. Writes c.args.cell c.args.value (lent_sight x.run) (lent_sight (record l { going = c.write.new.self }))) c.self.view_is
    (writes_sight l c.args.cell c.args.value c.write.new.self c.write.ensures.kept c.write.ensures.same)
