use Rattle.std.proofs.Common.{◌≡◌, ◌*◌, ◌++◌, ℕ, List, length, take, drop, sym, ap, subst, ◌∙◌, arith}
use Rattle.std.proofs.lemmas.Grind.{common_steps}
use Rattle.library.specs.Library.{Setting}
use Rattle.ranges.specs.Pairs.{Pairs}
use Rattle.plaincells.specs.Plain.{HoldNames, IsLogOf, ranges_in, undone}
use Rattle.plaincells.specs.PlainViews.{cells_setting}
use Rattle.plaincells.proofs.Logs.{length-undone}
use Rattle.plaincells.proofs.PlainSights.{began_same}
use Rattle.plaincells.proofs.plain.PlainCells.undo.Goals as goal

pub invariant_of-self : goal.invariant_of-self
invariant_of-self c =
    let p = c.args.self.now in
    let s : Setting = cells_setting p in
    let made = c.give_back.new.values in
    let log = c.give_back.new.log.items in
    let base : made ≡ undone p.values.items p.log.items =
    c.give_back.ensures.values ∙ ap (λ xs. undone xs p.log.items) c.as_mut_slice.ensures.value in
    let n : length made ≡ length p.values.items = ap (λ (xs : List ℕ). length xs) base ∙ length-undone p.values.items p.log.items in
    let same : take p.values.len (made ++ drop (length made) p.values.items) ≡ made = grind (arith, common_steps) in
    let begun : take p.values.len (made ++ drop (length made) p.values.items) ≡ undone p.values.items p.log.items = same ∙ base in
    let now = λ (l : Pairs). HoldNames p.slots (undone (take p.values.len (made ++ drop (length made) p.values.items)) l)
    (ranges_in p.store.items p.ranges.items) in
    let hold : HoldNames p.slots (take p.values.len (made ++ drop (length made) p.values.items)) (ranges_in p.store.items p.ranges.items) =
    subst (λ xs. HoldNames p.slots xs (ranges_in p.store.items p.ranges.items)) (sym begun) p.began_with_names in
    record {
      some = p.some;
      few = p.few;
      long = ap (λ (xs : List ℕ). length xs) same ∙ n ∙ p.long;
      roomy = p.roomy;
      stored = p.stored;
      logged = subst (IsLogOf (7 * p.slots)) (sym c.give_back.ensures.log) (λ i q at. absurd cc);
      lie = p.lie;
      names = hold;
      began_with_names = subst now (sym c.give_back.ensures.log) hold;
      began = began_same s p.room p.values.items _ p.log.items log p.store.items p.ranges.items (omega (arith, p.stored, p.roomy))
          (ap (λ (l : Pairs). undone (take p.values.len (made ++ drop (length made) p.values.items)) l) c.give_back.ensures.log
          ∙ begun) p.began;
    }
