use Rattle.std.proofs.Common.{◌≤◌, ◌*◌, ℕ, List, [], length, sym, ap, subst, ◌∙◌, arith}
use Rattle.std.proofs.lemmas.List.{length-replicate}
use Rattle.ranges.specs.Pairs.{Pairs}
use Rattle.library.specs.Library.{Setting, IsSetting}
use Rattle.plaincells.specs.Plain.{HoldNames, ShowsSome, LieInStore, IsLogOf, ranges_in, undone}
use Rattle.plaincells.proofs.Empty.{zeros_show, zeros_name}
use Rattle.plaincells.proofs.PlainSights.{plain_began}
use Rattle.plaincells.proofs.plain.PlainCells.empty.Goals as goal

pub invariant_of-result : goal.invariant_of-result
invariant_of-result c =
    let s : Setting = record { prelude = c.args.prelude; slots = c.args.slots } in
    let n = 7 * c.args.slots in
    let zeros = c.in_ok-vec.ensures.items_if_clones_equal (λ y e. e) in
    let values = c.in_ok-vec.field-0.items in
    let log = c.new.result.items in
    let store = c.new-2.result.items in
    let places = c.new-3.result.items in
    let none = c.new.ensures.items in
    let some = c.requires.some in
    let few = c.requires.few in
    let is : IsSetting s = record { sound = c.floats-sound.ensures.sound; some = some; few = few } in
    let shown : ShowsSome s (undone values log) store places =
    subst (λ (l : Pairs). ShowsSome s (undone values l) store places) (sym none)
    (subst (λ xs. ShowsSome s values xs places) (sym c.new-2.ensures.items)
    (subst (λ xs. ShowsSome s xs [] places) (sym zeros) (zeros_show s n places is))) in
    record {
      some = some;
      few = few;
      long = ap (λ (xs : List ℕ). length xs) zeros ∙ length-replicate n 0;
      roomy = c.requires.roomy;
      stored = subst (λ (xs : List ℕ). length xs ≤ c.args.room) (sym c.new-2.ensures.items) (omega arith);
      logged = subst (IsLogOf n) (sym none) (λ i q at. absurd cc);
      lie = subst (LieInStore store) (sym c.new-3.ensures.items) (λ i q at. absurd cc);
      names = subst (λ xs. HoldNames c.args.slots xs (ranges_in store places)) (sym zeros)
          (zeros_name c.args.slots n (ranges_in store places));
      began_with_names = subst (λ (l : Pairs). HoldNames c.args.slots (undone values l) (ranges_in store places)) (sym none)
          (subst (λ xs. HoldNames c.args.slots xs (ranges_in store places)) (sym zeros)
          (zeros_name c.args.slots n (ranges_in store places)));
      began = ∣ plain_began s c.args.room values log store places
          (subst (λ (xs : List ℕ). length xs ≤ 16777216) (sym c.new-2.ensures.items) (omega arith)) shown ∣₁;
    }
