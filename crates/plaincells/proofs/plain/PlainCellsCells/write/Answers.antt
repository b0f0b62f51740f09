use Rattle.std.proofs.Common.{◌<◌, length, sym, subst, ◌∙◌, arith}
use Rattle.std.proofs.lemmas.List.{length-set}
use Rattle.library.specs.Library.{Setting}
use Rattle.plaincells.specs.Plain.{HoldNames, ranges_in}
use Rattle.plaincells.specs.PlainViews.{cells_setting}
use Rattle.plaincells.proofs.PlainSights.{began_same, hold_set, plain_undone, plain_writes}
use Rattle.plaincells.proofs.plain.PlainCellsCells.write.Goals as goal

pub invariant_of-self : goal.invariant_of-self
invariant_of-self c =
    let p = c.args.self.now in
    let s : Setting = cells_setting p in
    let lt : c.args.cell < length p.values.items = omega (arith, p.long, c.requires.cell) in
    let same = plain_undone s p.room p.values.items p.log.items p.store.items p.ranges.items p.full c.args.cell c.args.value
    c.requires.read in
    record {
      some = p.some;
      few = p.few;
      long = length-set p.values.items c.args.cell c.args.value ∙ p.long;
      roomy = p.roomy;
      stored = p.stored;
      logged = p.logged;
      lie = p.lie;
      names = hold_set p.slots p.values.items (ranges_in p.store.items p.ranges.items) c.args.cell c.args.value lt p.names c.requires.named;
      began_with_names = subst (λ xs. HoldNames p.slots xs (ranges_in p.store.items p.ranges.items)) (sym same) p.began_with_names;
      began = began_same s p.room p.values.items _ p.log.items p.log.items p.store.items p.ranges.items
          (omega (arith, p.stored, p.roomy)) same p.began;
    }

pub returns : goal.returns
returns c =
    let p = c.args.self.now in
    let s : Setting = cells_setting p in
    plain_writes s p.room p.values.items p.log.items p.store.items p.ranges.items p.full c.args.cell c.args.value
    (omega (arith, p.long, c.requires.cell)) c.requires.read
