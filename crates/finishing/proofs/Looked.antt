-- What is looked at in plain cells that were made of values and a store is every library that these show.
use Rattle.std.proofs.Common.{◌≡◌, ◌∙◌, ap, sym, subst, refl, ℕ, suc, ◌≤◌, List, [], ◌∷◌, length, map, arith}
use Rattle.std.specs.Prelude.{IsPermutation, slice_index}
use Rattle.std.proofs.lemmas.List.Sorted.{IsPermutation-trans}
use Rattle.library.specs.declared.library.Ranked.{Ranked}
use Rattle.library.specs.Library.{Setting, Verifies, ShowsInOrder}
use Rattle.library.proofs.Showing.{verifies_permutation}
use Rattle.ranges.specs.Pairs.{Pairs}
use Rattle.ranges.specs.Ranges.{Range, Within, ranges_named}
use Rattle.ranges.proofs.Grown.{within_trans}
use Rattle.cells.specs.State.{State, most_words}
use Rattle.cells.specs.Slots.{is_ranged}
use Rattle.cells.specs.Shows.{Shows}
use Rattle.cells.specs.Sight.{Views, Looks, after}
use Rattle.cells.proofs.Sights.{setting_kept}
use Rattle.plaincells.specs.Plain.{numbered_from, undone, ranges_in}
use Rattle.plaincells.specs.PlainViews.{cells_setting, cells_sight, now_state, first_state, named_state, AreOfWords}
use Rattle.plaincells.specs.declared.plain.PlainCells.{PlainCells}
use Rattle.plaincells.proofs.Logs.{length-undone}
use Rattle.plaincells.proofs.Numbered.{over_all}
use Rattle.plaincells.proofs.PlainSights.{plain_matches}
use Rattle.plaincells.proofs.Widened.{shows_widened}
use Rattle.shows.specs.Looking.{AreEntries}

-- the values are those that are numbered
numbered_values : (c : ℕ) (values : List ℕ) → map (λ p. p.1) (numbered_from c values) ≡ values
numbered_values c [] = refl
numbered_values c (v ∷ values) = let rest = numbered_values (suc c) values in λ i. v ∷ rest i

module _ (setting : Setting) (values store : List ℕ) (old new : PlainCells)
    (are : AreOfWords setting.prelude setting.slots values store old) (looks : Looks (cells_sight old) (cells_sight new)) where
  abbrev named : List Range
  named = ranges_named (is_ranged setting.slots) store values

  setting_is : cells_setting new ≡ setting
  setting_is = setting_kept looks.onward ∙ (λ i. record { prelude = are.prelude_is i; slots = are.slots_are i })

  pub prelude_is : new.prelude ≡ setting.prelude
  prelude_is = ap (λ (s : Setting). s.prelude) setting_is

  values_are : new.values.items ≡ values
  values_are =
      sym (numbered_values 0 new.values.items) ∙ ap (λ (ps : Pairs). map (λ p. p.1) ps) looks.writes
      ∙ numbered_values 0 old.values.items ∙ are.values_are

  known : Within named (ranges_in new.store.items new.ranges.items)
  known =
      within_trans named (ranges_in store old.ranges.items) (ranges_in new.store.items new.ranges.items) are.known
      (subst (λ xs. Within (ranges_in xs old.ranges.items) (ranges_in new.store.items new.ranges.items)) are.store_is looks.onward.ranges)

  -- with the values, the state that the run began with is the one that they show
  after_is : after (cells_sight new) (first_state new) ≡ now_state new
  after_is =
      over_all new.values.items (undone new.values.items new.log.items) (ranges_in new.store.items new.ranges.items)
      (length-undone new.values.items new.log.items)

  module _ (lib : List Ranked) (shown : Shows setting.slots (named_state setting.slots values store) lib)
      (verifies : Verifies setting lib) where
    now_shows : Shows setting.slots (now_state new) lib
    now_shows =
        subst (λ vs. Shows setting.slots (record { value = slice_index vs; ranges = ranges_in new.store.items new.ranges.items }) lib)
        (sym values_are)
        (shows_widened setting.slots (slice_index values) named (ranges_in new.store.items new.ranges.items) known lib shown.held (
          shown,
          refl,
        )).0

    views : Views (cells_sight new) (first_state new) lib
    views =
        let stored = new.stored in
        let roomy = new.roomy in
        let short : length new.store.items ≤ most_words = omega (arith, stored, roomy) in
        record {
          matches = plain_matches (cells_setting new) new.room new.values.items new.log.items new.store.items new.ranges.items new.full
              short;
          shows = subst (λ (st : State). Shows new.slots st lib) (sym after_is)
              (subst (λ (s : Setting). Shows s.slots (now_state new) lib) (sym setting_is) now_shows);
          verifies = subst (λ (s : Setting). Verifies s lib) (sym setting_is) verifies;
        }

    looked_same : (found : List Ranked) → AreEntries (cells_sight new) found → IsPermutation lib found
    looked_same found entries = entries (first_state new) lib views

    pub looked_verifies : (found : List Ranked) → AreEntries (cells_sight new) found → Verifies setting found
    looked_verifies found entries = verifies_permutation setting lib found verifies (looked_same found entries)

    pub looked_in_order : (found sorted : List Ranked) → AreEntries (cells_sight new) found → ShowsInOrder found sorted
        → ShowsInOrder lib sorted
    looked_in_order found sorted entries by =
        record { same = IsPermutation-trans lib found sorted (looked_same found entries) by.same; ordered = by.ordered }
