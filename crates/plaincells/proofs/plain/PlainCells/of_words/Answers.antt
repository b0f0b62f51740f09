use Rattle.std.proofs.Common.{◌≡◌, ◌*◌, [], length, sym, subst, refl, arith}
use Rattle.std.proofs.lemmas.Grind.{common_steps}
use Rattle.library.specs.Library.{Setting}
use Rattle.plaincells.specs.Plain.{AreNamedBy, HoldNames, IsLogOf, ShowsSome, ranges_in, undone}
use Rattle.plaincells.proofs.OfWords.{known_of_words, lie_of_words, hold_of_words, shows_of_words}
use Rattle.plaincells.proofs.PlainSights.{plain_began}
use Rattle.plaincells.proofs.plain.PlainCells.of_words.Goals as goal

pub invariant_of-result : goal.invariant_of-result
invariant_of-result c =
    let s : Setting = record { prelude = c.args.prelude; slots = c.args.slots } in
    let slots = c.args.slots in
    let values = c.args.values.items in
    let store = c.args.store.items in
    let places = c.in_ok-ranges.ranges.items in
    let log = c.new.result.items in
    let none : log ≡ [] = c.new.ensures.items in
    let short = c.requires.roomy in
    let room : length store ≡ c.len.result = grind (arith, common_steps) in
    let by = subst (λ vs. AreNamedBy slots vs (length vs) places) c.as_slice.ensures.value c.in_ok-ranges.ensures in
    let shown = c.requires.shows in
    let names = hold_of_words slots values store short places by shown.0 shown.1 in
    let shows : ShowsSome s values store places = (shown.0, shows_of_words slots values store short places by shown.0 shown.1, shown.2) in
    record {
      some = c.requires.some;
      few = c.requires.few;
      long = c.requires.long;
      roomy = omega (arith, room, short);
      stored = omega (arith, room);
      logged = subst (IsLogOf (7 * slots)) (sym none) (λ i q at. absurd cc);
      lie = lie_of_words slots values store short places by shown.0 shown.1;
      names = names;
      began_with_names = subst (λ l. HoldNames slots (undone values l) (ranges_in store places)) (sym none) names;
      began = ∣ plain_began s c.len.result values log store places short
          (subst (λ l. ShowsSome s (undone values l) store places) (sym none) shows) ∣₁;
    }

pub returns : goal.returns
returns c =
    let values = c.args.values.items in
    let store = c.args.store.items in
    let places = c.in_ok-ranges.ranges.items in
    let room : c.len.result ≡ length store = grind (arith, common_steps) in
    record {
      prelude_is = refl;
      slots_are = refl;
      room_is = room;
      values_are = refl;
      store_is = refl;
      log = c.new.ensures.items;
      fresh = refl;
      known = known_of_words c.args.slots values store c.requires.roomy places
          (subst (λ vs. AreNamedBy c.args.slots vs (length vs) places) c.as_slice.ensures.value c.in_ok-ranges.ensures);
    }
