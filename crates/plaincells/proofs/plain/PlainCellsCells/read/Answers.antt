use Rattle.std.proofs.Common.{◌<◌, ◌≡◌, length, is_ok, sym, subst, arith}
use Rattle.cells.specs.Sight.{Looks, Reads, ReadsWithin}
use Rattle.library.specs.Library.{Setting}
use Rattle.plaincells.specs.Plain.{HoldNames, ranges_in, plain_sight}
use Rattle.plaincells.specs.PlainViews.{cells_setting, cells_sight}
use Rattle.cells.proofs.Sights.{looks_refl}
use Rattle.cells.proofs.Asking.{nothing_same, asks_nothing}
use Rattle.plaincells.proofs.PlainSights.{read_at, undone_logged, logged_either, began_same, plain_reads, plain_asks}
use Rattle.plaincells.proofs.plain.PlainCellsCells.read.Goals as goal

pub invariant_of-self : goal.invariant_of-self
invariant_of-self c =
    let p = c.args.self.now in
    let lt : c.args.cell < length p.values.items = omega (arith, p.long, c.requires) in
    let at = read_at p.values.items c.args.cell c.index-value.result.now lt c.index-value.ensures in
    let ok = is_ok c.push.result in
    let same = undone_logged p.values.items p.log.items c.push.new.self.items c.args.cell c.index-value.result.now ok at
    c.push.ensures.items in
    record {
      some = p.some;
      few = p.few;
      long = p.long;
      roomy = p.roomy;
      stored = p.stored;
      logged = logged_either _ p.log.items c.push.new.self.items c.args.cell c.index-value.result.now ok p.logged c.requires
          c.push.ensures.items;
      lie = p.lie;
      names = p.names;
      began_with_names = subst (λ xs. HoldNames p.slots xs (ranges_in p.store.items p.ranges.items)) (sym same) p.began_with_names;
      began = began_same _ p.room p.values.items p.values.items p.log.items c.push.new.self.items p.store.items p.ranges.items
          (omega (arith, p.stored, p.roomy)) same p.began;
    }

pub returns-in-Ok-clause-ok : goal.returns-in-Ok-clause-ok
returns-in-Ok-clause-ok c =
    let p = c.args.self.now in
    let v = c.index-value.result.now in
    let s : Setting = cells_setting p in
    let lt : c.args.cell < length p.values.items = omega (arith, p.long, c.requires) in
    let at = read_at p.values.items c.args.cell v lt c.index-value.ensures in
    subst (λ l. Reads c.args.cell v (cells_sight p) (plain_sight s p.room p.values.items l p.store.items p.ranges.items p.full))
    (sym c.in-Ok.ensures.items)
    (plain_reads s p.room p.values.items p.log.items p.store.items p.ranges.items p.full c.args.cell v lt at p.names)

pub returns-in-Err-clause-err : goal.returns-in-Err-clause-err
returns-in-Err-clause-err c =
    let p = c.args.self.now in
    let s : Setting = cells_setting p in
    let before = cells_sight p in
    subst (λ l. Looks before (plain_sight s p.room p.values.items l p.store.items p.ranges.items p.full)) (sym c.in-Err.ensures.items)
    (looks_refl before)

pub returns-in-Ok-clause-reads : goal.returns-in-Ok-clause-reads
returns-in-Ok-clause-reads c =
    let p = c.args.self.now in
    let v = c.index-value.result.now in
    let s : Setting = cells_setting p in
    let lt : c.args.cell < length p.values.items = omega (arith, p.long, c.requires) in
    let at = read_at p.values.items c.args.cell v lt c.index-value.ensures in
    subst (λ l. ReadsWithin (λ k. k ≡ c.args.cell) (cells_sight p)
    (plain_sight s p.room p.values.items l p.store.items p.ranges.items p.full))
    (sym c.in-Ok.ensures.items) (plain_asks s p.room p.values.items p.log.items p.store.items p.ranges.items p.full c.args.cell v at)

pub returns-in-Err-clause-reads : goal.returns-in-Err-clause-reads
returns-in-Err-clause-reads c =
    let p = c.args.self.now in
    let s : Setting = cells_setting p in
    let before = cells_sight p in
    subst (λ l. ReadsWithin (λ k. k ≡ c.args.cell) before (plain_sight s p.room p.values.items l p.store.items p.ranges.items p.full))
    (sym c.in-Err.ensures.items) (asks_nothing (nothing_same before))
