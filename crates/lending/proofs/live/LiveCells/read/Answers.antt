use Rattle.std.proofs.Common.{◌<◌, ◌≡◌, ℕ, Some, sym, ap, subst}
use Rattle.std.specs.Option.{option_map}
use Rattle.cells.specs.Slots.{cell_count}
use Rattle.cells.specs.Sight.{Looks, Reads, ReadsWithin}
use Rattle.tlwords.specs.declared.outcome.Conflict.{Conflict}
use Rattle.lending.specs.Lent.{lent_sight}
use Rattle.lending.proofs.Lending.{lending_in, agrees_of, base_count}
use Rattle.lending.proofs.Reading.{read_ends, stop_ends}
use Rattle.lending.proofs.live.LiveCells.read.Goals as goal

pub read-requires : goal.read-requires
read-requires c =
    let s = c.self.inside in
    subst (λ (n : ℕ). c.args.cell < n) (sym (base_count (lending_in s) s.stage s.over c.self.invariant.1))
    (subst (λ x. c.args.cell < cell_count (lent_sight x.run).setting.slots) (sym c.self.view_is) c.requires)

pub invariant_of-self : goal.invariant_of-self
invariant_of-self c =
    let s = c.self.inside in
    let e = c.in-Ok.ensures in
    let r = c.read.new.self in
    let ends = read_ends (lending_in s) s.stage s.over c.self.invariant.1 c.args.cell r c.in-Ok.value e.over e.kept e.ok e.noted in
    (c.self.invariant.0, ends.0)

pub invariant_of-self-inside : goal.invariant_of-self-inside
invariant_of-self-inside c =
    let s = c.self.inside in
    let e = c.in-Ok.ensures in
    let r = c.read.new.self in
    let ends = read_ends (lending_in s) s.stage s.over c.self.invariant.1 c.args.cell r c.in-Ok.value e.over e.kept e.ok e.noted in
    (∣ agrees_of _ s.stage s.over ends.0 ∣₁, tt)

pub invariant_of-self-in-Err : goal.invariant_of-self-in-Err
invariant_of-self-in-Err c =
    let s = c.self.inside in
    let e = c.in-Err.ensures in
    let r = c.read.new.self in
    let ends = stop_ends (lending_in s) s.stage s.over c.self.invariant.1 c.args.cell r c.in-Err.conflict e.over e.err in
    (c.self.invariant.0, ends.0)

pub invariant_of-self-inside-in-Err : goal.invariant_of-self-inside-in-Err
invariant_of-self-inside-in-Err c =
    let s = c.self.inside in
    let e = c.in-Err.ensures in
    let r = c.read.new.self in
    let met = c.in-Err.conflict in
    let ends = stop_ends (lending_in s) s.stage s.over c.self.invariant.1 c.args.cell r met e.over e.err in
    (∣ agrees_of _ s.stage (Some met) ends.0 ∣₁, tt)

pub returns-in-Ok-clause-ok : goal.returns-in-Ok-clause-ok
returns-in-Ok-clause-ok c =
    let s = c.self.inside in
    let l = lending_in s in
    let e = c.in-Ok.ensures in
    let r = c.read.new.self in
    subst (λ x. Reads c.args.cell c.in-Ok.value (lent_sight x.run) (lent_sight (record l { going = r }))) c.self.view_is
    (read_ends l s.stage s.over c.self.invariant.1 c.args.cell r c.in-Ok.value e.over e.kept e.ok e.noted).1

pub returns-in-Err-clause-err : goal.returns-in-Err-clause-err
returns-in-Err-clause-err c =
    let s = c.self.inside in
    let l = lending_in s in
    let e = c.in-Err.ensures in
    let r = c.read.new.self in
    subst (λ x. Looks (lent_sight x.run) (lent_sight (record l { going = r }))) c.self.view_is
    (stop_ends l s.stage s.over c.self.invariant.1 c.args.cell r c.in-Err.conflict e.over e.err).1

pub returns-in-Err-clause-halts : goal.returns-in-Err-clause-halts
returns-in-Err-clause-halts c =
    let s = c.self.inside in
    let e = c.in-Err.ensures in
    let met = c.in-Err.conflict in
    let ends = stop_ends (lending_in s) s.stage s.over c.self.invariant.1 c.args.cell c.read.new.self met e.over e.err in
    (met.cell, ap (option_map (λ (k : Conflict). k.cell)) ends.0.over_is)

pub returns-in-Ok-clause-reads : goal.returns-in-Ok-clause-reads
returns-in-Ok-clause-reads c =
    let s = c.self.inside in
    let l = lending_in s in
    let e = c.in-Ok.ensures in
    let r = c.read.new.self in
    subst (λ x. ReadsWithin (λ k. k ≡ c.args.cell) (lent_sight x.run) (lent_sight (record l { going = r }))) c.self.view_is
    (read_ends l s.stage s.over c.self.invariant.1 c.args.cell r c.in-Ok.value e.over e.kept e.ok e.noted).2

pub returns-in-Err-clause-reads : goal.returns-in-Err-clause-reads
returns-in-Err-clause-reads c =
    let s = c.self.inside in
    let l = lending_in s in
    let e = c.in-Err.ensures in
    let r = c.read.new.self in
    subst (λ x. ReadsWithin (λ k. k ≡ c.args.cell) (lent_sight x.run) (lent_sight (record l { going = r }))) c.self.view_is
    (stop_ends l s.stage s.over c.self.invariant.1 c.args.cell r c.in-Err.conflict e.over e.err).2
