use Rattle.std.proofs.Common.{◌*◌, sym, subst, arith}
use mathlib.Core.Logic.{∥∥₁_map}
use Rattle.library.specs.Library.{Setting}
use Rattle.plaincells.specs.Plain.{HoldNames, ShowsSome, IsLogOf, ranges_in, undone}
use Rattle.plaincells.specs.PlainViews.{cells_setting}
use Rattle.plaincells.proofs.PlainSights.{plain_began}
use Rattle.plaincells.proofs.plain.PlainCells.keep.Goals as goal

pub invariant_of-self : goal.invariant_of-self
invariant_of-self c =
    let p = c.args.self.now in
    let s : Setting = cells_setting p in
    let none = c.clear.ensures.items in
    let log = c.clear.new.self.items in
    record {
      some = p.some;
      few = p.few;
      long = p.long;
      roomy = p.roomy;
      stored = p.stored;
      logged = subst (IsLogOf (7 * p.slots)) (sym none) (λ i q at. absurd cc);
      lie = p.lie;
      names = p.names;
      began_with_names = subst (λ l. HoldNames p.slots (undone p.values.items l) (ranges_in p.store.items p.ranges.items))
          (sym none) p.names;
      began = ∥∥₁_map c.requires (λ b. plain_began s p.room p.values.items log p.store.items p.ranges.items
          (omega (arith, p.stored, p.roomy))
          (subst (λ l. ShowsSome s (undone p.values.items l) p.store.items p.ranges.items) (sym none) b));
    }
