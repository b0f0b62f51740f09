-- The places that the range cells of a shown library name are its ranges, and the library is shown with these.
use Rattle.std.proofs.Common.{◌≡◌, ◌≢◌, ◌∙◌, ap, sym, subst, refl, ℕ, ◌+◌, ◌/◌, ◌%◌, ◌^◌, ◌<◌, ◌≤◌, true, List, [], ◌∷◌, ◌++◌, length, take, drop, Some, inl, inr, arith}
use Rattle.std.specs.Prelude.{slice_get, slice_index}
use Rattle.std.proofs.lemmas.Bool.{cases_eq}
use Rattle.std.proofs.lemmas.List.{append-nil}
use Rattle.std.proofs.lemmas.Option.{slice_get_within, get_or_from_slice_get}
use Rattle.library.specs.declared.library.Ranked.{Ranked}
use Rattle.ranges.specs.Ranges.{Range, Has, Within, Names, IsStored, range_named, ranges_named}
use Rattle.ranges.specs.declared.range.Range.{Range as Span}
use Rattle.ranges.proofs.Grown.{names_grow}
use Rattle.ranges.proofs.Named.{is_named, named_stored}
use Rattle.cells.specs.State.{most_words}
use Rattle.cells.specs.Slots.{is_ranged}
use Rattle.cells.specs.Shows.{Shows}
use Rattle.plaincells.specs.Plain.{IsPlaceOf, AreNamedBy, LieInStore, HoldNames, range_in, ranges_in, plain_state}
use Rattle.plaincells.specs.PlainViews.{named_state}
use Rattle.ranges.proofs.Members.{has_from_contains, has_mapped, has_append_left, has_append_right, has_append_cases}
use Rattle.plaincells.proofs.Naming.{shown_names, stored_lies}
use Rattle.plaincells.proofs.Stores.{true_names}
use Rattle.plaincells.proofs.Widened.{shows_widened}

-- ---- one cell more

module _ (slots : ℕ) (values : List ℕ) (count : ℕ) (places : List Span) (by : AreNamedBy slots values count places) where
  -- a cell that is no range cell, or holds 0, names none
  pub none_more : ((v : ℕ) → slice_get values count ≡ Some v → is_ranged slots count ≡ true → v ≢ 0 → ⊥)
      → AreNamedBy slots values (count + 1) places
  none_more none =
      record {
        named = by.named;
        all = λ c v lt at ranged some. elim (cases_eq c count) [
          | inl e ↦ absurd (none v (ap (slice_get values) (sym e) ∙ at) (ap (is_ranged slots) (sym e) ∙ ranged) some)
          | inr ne ↦ by.all c v (omega (arith, lt, ne)) at ranged some
        ];
      }

  pub one_more : (v : ℕ) (r : Span) → slice_get values count ≡ Some v → is_ranged slots count ≡ true → v ≢ 0 → IsPlaceOf v r
      → AreNamedBy slots values (count + 1) (places ++ r ∷ [])
  one_more v r at ranged some is =
      record {
        named = λ q has. elim (has_append_cases places (r ∷ []) q has) [
          | inl early ↦ by.named q early
          | inr last ↦ elim last [
            | inl e ↦ (count, v, at, ranged, some, subst (IsPlaceOf v) (sym e) is)
            | inr none ↦ absurd none
          ]
        ];
        all = λ c w lt there its more. elim (cases_eq c count) [
          | inl e ↦
              let same : w ≡ v = let here = ap (slice_get values) (sym e) ∙ there in cc in
              (r, has_append_right places (r ∷ []) r (inl refl), subst (λ (x : ℕ). IsPlaceOf x r) (sym same) is)
          | inr ne ↦
              let p = by.all c w (omega (arith, lt, ne)) there its more in
              (p.0, has_append_left places (r ∷ []) p.0 p.1, p.2)
        ];
      }

-- ---- all that are named

place_is : (store : List ℕ) (v : ℕ) (r : Span) → IsPlaceOf v r → range_in store r ≡ range_named store v
place_is store v r is = λ i. record { start = is.0 i; words = take (is.1 i) (drop (is.0 i) store) }

module _ (slots : ℕ) (values store : List ℕ) (short : length store ≤ most_words) (places : List Span)
    (by : AreNamedBy slots values (length values) places) where
  abbrev named : List Range
  named = ranges_named (is_ranged slots) store values

  pub known_of_words : Within named (ranges_in store places)
  known_of_words x has =
      let q = is_named (is_ranged slots) store values x has in
      let v = q.1 in
      let p = by.all q.0 v (slice_get_within values q.0 v q.2) q.2 q.3 (λ e. q.5 (ap (λ (r : Range). r.words) q.4 ∙ none e)) in
      subst (λ y. Has y (ranges_in store places)) (place_is store v p.0 p.2 ∙ sym q.4) (has_mapped (range_in store) places p.0 p.1)
    where
      none : {w : ℕ} → w ≡ 0 → (range_named store w).words ≡ []
      none e = ap (λ (w : ℕ). (range_named store w).words) e

  -- a word that names one of them names a place with words, all of them in the store
  named_lies : (v : ℕ) → Names named v → v ≢ 0 → (0 < v % 2 ^ 25) × (v / 2 ^ 25 + v % 2 ^ 25 ≤ length store)
  named_lies v (inl e) some = absurd (some e)
  named_lies v (inr f) some =
      stored_lies (length store) store short f.0
      (subst (λ xs. IsStored (length store) xs f.0) (append-nil store) (named_stored (is_ranged slots) store values [] f.0 f.1))
      (is_named (is_ranged slots) store values f.0 f.1).5 v f.2

  module _ (lib : List Ranked) (shown : Shows slots (named_state slots values store) lib) where
    pub lie_of_words : LieInStore store places
    lie_of_words i r at =
        let q = by.named r (has_from_contains places r (i, slice_get_within places i r at, get_or_from_slice_get places i r r at)) in
        let l = named_lies q.1 (shown_names slots values named lib shown q.0 q.1 q.2 q.3) q.4 in
        let first = q.5.0 in
        let count = q.5.1 in
        (omega (arith, l.0, count), omega (arith, l.1, first, count))

    pub hold_of_words : HoldNames slots values (ranges_in store places)
    hold_of_words c v at ranged =
        true_names (ranges_in store places) v
        (names_grow named (ranges_in store places) v known_of_words (shown_names slots values named lib shown c v at ranged))

    pub shows_of_words : Shows slots (plain_state values store places) lib
    shows_of_words = (shows_widened slots (λ c. slice_index values c) named (ranges_in store places) known_of_words lib shown.held (
      shown,
      refl,
    )).0
