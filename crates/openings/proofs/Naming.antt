-- The ranges of a store that the range cells of a shown library name are enough to show it.
use Rattle.std.proofs.Common.{◌≡◌, ◌≢◌, sym, refl, ℕ, ◌≤◌, true, List, [], length, Some, arith}
use Rattle.std.specs.Prelude.{slice_get, slice_index}
use Rattle.std.proofs.lemmas.Option.{slice_get-get_or}
use Rattle.library.specs.declared.library.Ranked.{Ranked}
use Rattle.ranges.specs.Ranges.{Range, Has, IsStored, word_of, ranges_named}
use Rattle.ranges.proofs.Named.{has_its_ranges}
use Rattle.cells.specs.State.{most_words}
use Rattle.cells.specs.Slots.{cell_count, is_ranged}
use Rattle.cells.specs.Shows.{Shows}
use Rattle.plaincells.proofs.Naming.{stored_named}
use Rattle.lawful.specs.Lawful.{state_of}
use Rattle.lawful.proofs.Keeping.{shows_kept}

module _ (slots tail : ℕ) (values store : List ℕ) (ranges : List Range) (short : length store ≤ most_words)
    (stored : (r : Range) → Has r ranges → IsStored tail store r) where
  abbrev named : List Range
  named = ranges_named (is_ranged slots) store values

  -- a range with words that the value of a range cell names is one of them
  named_at : (c v : ℕ) (r : Range) → slice_get values c ≡ Some v → is_ranged slots c ≡ true → Has r ranges → r.words ≢ []
      → v ≡ word_of r → Has r named
  named_at c v r at ranged has some is =
      has_its_ranges (is_ranged slots) store values r
      (c, v, at, ranged, sym (stored_named tail store short r (stored r has) some v is), some)

  -- a library that is shown is shown with these alone
  pub named_shows : length values ≡ cell_count slots → (lib : List Ranked) → Shows slots (state_of values ranges) lib
      → Shows slots (state_of values named) lib
  named_shows long lib shown =
      shows_kept slots (state_of values ranges) (state_of values named) (λ c lt. refl)
      (λ c words lt ranged b.
      record {
        start = b.start;
        finished = named_at c (slice_index values c) (record { start = b.start; words = words })
            (slice_get-get_or values c 0 (omega (arith, lt, long))) ranged b.finished b.some b.named;
        named = b.named;
        some = b.some;
      })
      lib shown
