-- What is kept of the cells, as slots are set.
use Rattle.std.proofs.Common.{◌≡◌, ◌≢◌, ℕ, zero, suc, ◌+◌, ◌%◌, ◌<◌, eq-eqb, ne_eqb, true, false, is_some, Option, Some, None, List, [], ◌∷◌, ◌++◌, length, take, slice_get, slice_set, sym, refl, ap, ◌∙◌, arith, length-set}
use Rattle.std.specs.Option.{option_map}
use Rattle.std.specs.Prelude.{option_and_then, slice_index_or}
use Rattle.std.proofs.lemmas.Option.{none-some}
use mathlib.Core.Logic.{dite}
use native.Mathlib.Decide.{ℕ_discrete}
use Rattle.tlcore.specs.Seats.{Seat, find_read}
use Rattle.tlcore.proofs.Lists.{get-set_same, get-set_other}
use Rattle.tlcore.proofs.Growth.{get_exists}
use Rattle.tlcore.specs.declared.seats.Read.{Read}
use Rattle.tlwords.specs.declared.log.Slot.{Slot}
use Rattle.tlwords.specs.Runs.{word_seen, value_kept, was_read, IsBlank, IsKeptOf, HasNoted, HasKept}

module _ (slots : List Slot) (cell : ℕ) (s : Slot) where
  pub seen_here : cell < length slots → word_seen (slice_set slots cell s) cell ≡ s.word
  seen_here l =
      let b : (x : Slot) × (slice_get slots cell ≡ Some x) = get_exists slots cell l in
      ap (λ (o : Option Slot). option_and_then (λ (s : Slot). s.word) o) (get-set_same slots cell s b.0 b.1)

  pub seen_else : (c : ℕ) → c ≢ cell → word_seen (slice_set slots cell s) c ≡ word_seen slots c
  seen_else c n = ap (λ (o : Option Slot). option_and_then (λ (s : Slot). s.word) o) (get-set_other slots cell c s n)

  pub kept_here : cell < length slots → value_kept (slice_set slots cell s) cell ≡ s.kept
  kept_here l =
      let b : (x : Slot) × (slice_get slots cell ≡ Some x) = get_exists slots cell l in
      ap (λ (o : Option Slot). option_and_then (λ (s : Slot). s.kept) o) (get-set_same slots cell s b.0 b.1)

  pub kept_else : (c : ℕ) → c ≢ cell → value_kept (slice_set slots cell s) c ≡ value_kept slots c
  kept_else c n = ap (λ (o : Option Slot). option_and_then (λ (s : Slot). s.kept) o) (get-set_other slots cell c s n)

-- ---- a read is noted

find_here : (r : Read) (rs : List Read) → find_read r.cell (r ∷ rs) ≡ Some r
find_here r rs = rw (eq-eqb r.cell r.cell refl) refl

find_else : (c : ℕ) (r : Read) (rs : List Read) → r.cell ≢ c → find_read c (r ∷ rs) ≡ find_read c rs
find_else c r rs n = rw (ne_eqb r.cell c n) refl

module _ (slots : List Slot) (cell word : ℕ) (kept : Option ℕ) (l : cell < length slots) (even : word % 2 ≡ 0)
    (same : kept ≡ value_kept slots cell) where
  abbrev after : List Slot
  after = slice_set slots cell (record { word = Some word; kept = kept })

  noted_values : (c : ℕ) → value_kept after c ≡ value_kept slots c
  noted_values c = dite (ℕ_discrete c cell)
      (λ e. ap (value_kept after) e ∙ (kept_here slots cell (record { word = Some word; kept = kept }) l
      ∙ (same ∙ ap (value_kept slots) (sym e))))
      (λ n. kept_else slots cell (record { word = Some word; kept = kept }) c n)

  noted_here : was_read after cell ≡ true
  noted_here = ap is_some (seen_here slots cell (record { word = Some word; kept = kept }) l)

  noted_still : (c : ℕ) → was_read slots c ≡ true → was_read after c ≡ true
  noted_still c was = dite (ℕ_discrete c cell) (λ e. ap (was_read after) e ∙ noted_here)
      (λ n. ap is_some (seen_else slots cell (record { word = Some word; kept = kept }) c n) ∙ was)

  noted_kept : (t : Seat) (r : Read) → IsKeptOf t slots → r.cell ≡ cell → r.word ≡ word → IsKeptOf (record t { reads = r ∷ t.reads }) after
  noted_kept t r k a b = (
    λ c. dite (ℕ_discrete c cell)
        (λ e. ap (word_seen after) e ∙ (seen_here slots cell (record { word = Some word; kept = kept }) l ∙ (ap (λ (w : ℕ). Some w) (sym b)
        ∙ sym (ap (λ (j : ℕ). option_map (λ (r : Read). r.word) (find_read j (r ∷ t.reads))) (e ∙ sym a)
        ∙ ap (option_map (λ (r : Read). r.word)) (find_here r t.reads)))))
        (λ n. seen_else slots cell (record { word = Some word; kept = kept }) c n
        ∙ (k.0 c ∙ sym (ap (option_map (λ (r : Read). r.word)) (find_else c r t.reads (λ e. n (sym e ∙ a)))))),
    λ c is. noted_still c (k.1 c (ap is_some (sym (noted_values c)) ∙ is)),
    λ c w is. dite (ℕ_discrete c cell)
        (λ e. let p : Some word ≡ Some w = sym (seen_here slots cell (record { word = Some word; kept = kept }) l)
        ∙ (ap (word_seen after) (sym e) ∙ is) in
        let q : word ≡ w = cc in ap (λ (z : ℕ). z % 2) (sym q) ∙ even)
        (λ n. k.2 c w (sym (seen_else slots cell (record { word = Some word; kept = kept }) c n) ∙ is)),
  )

  pub is_noted : HasNoted slots after cell word
  is_noted = (noted_kept, noted_values, noted_here, noted_still, length-set slots cell (record { word = Some word; kept = kept }))

-- ---- a value is kept

module _ (slots : List Slot) (cell value : ℕ) (word : Option ℕ) (l : cell < length slots) (same : word ≡ word_seen slots cell) where
  abbrev written : List Slot
  written = slice_set slots cell (record { word = word; kept = Some value })

  written_words : (c : ℕ) → word_seen written c ≡ word_seen slots c
  written_words c = dite (ℕ_discrete c cell)
      (λ e. ap (word_seen written) e ∙ (seen_here slots cell (record { word = word; kept = Some value }) l
      ∙ (same ∙ ap (word_seen slots) (sym e))))
      (λ n. seen_else slots cell (record { word = word; kept = Some value }) c n)

  written_kept : was_read slots cell ≡ true → (t : Seat) → IsKeptOf t slots → IsKeptOf t written
  written_kept read t k = (
    λ c. written_words c ∙ k.0 c,
    λ c is. ap is_some (written_words c) ∙ dite (ℕ_discrete c cell) (λ e. ap (was_read slots) e ∙ read)
        (λ n. k.1 c (ap is_some (sym (kept_else slots cell (record { word = word; kept = Some value }) c n)) ∙ is)),
    λ c w is. k.2 c w (sym (written_words c) ∙ is),
  )

  pub is_kept : was_read slots cell ≡ true → HasKept slots written cell value
  is_kept read = (
    written_kept read,
    kept_here slots cell (record { word = word; kept = Some value }) l,
    λ c n. kept_else slots cell (record { word = word; kept = Some value }) c n,
    written_words,
    length-set slots cell (record { word = word; kept = Some value }),
  )

pub take_next : (xs : List ℕ) (n : ℕ) (d : ℕ) → n < length xs → take (n + 1) xs ≡ take n xs ++ slice_index_or xs n d ∷ []
take_next xs n d l = ap (λ (k : ℕ). take k xs) (let e : n + 1 ≡ suc n = omega arith in e) ∙ go xs n l
  where
    go : (xs : List ℕ) (n : ℕ) → n < length xs → take (suc n) xs ≡ take n xs ++ slice_index_or xs n d ∷ []
    go [] n l = absurd (omega arith)
    go (x ∷ xs) zero l = refl
    go (x ∷ xs) (suc n) l = ap (λ (l : List ℕ). x ∷ l) (go xs n (omega arith))

pub none_known : (o : Option ℕ) → (is_some o ≡ true → ⊥) → o ≡ None
none_known None f = refl
none_known (Some w) f = absurd (f refl)

-- ---- a run begins

some_none : (o : Option ℕ) → o ≡ None → is_some o ≡ true → ⊥
some_none o e s = let a : true ≡ false = sym s ∙ ap is_some e in cc

pub blank_kept : (t : Seat) (slots : List Slot) → t.reads ≡ [] → IsBlank slots → IsKeptOf t slots
blank_kept t slots none_read b = (
  λ c. (b c).0 ∙ sym (ap (λ (rs : List Read). option_map (λ (r : Read). r.word) (find_read c rs)) none_read),
  λ c is. absurd (some_none (value_kept slots c) (b c).1 is),
  λ c w is. absurd (none-some w (sym (b c).0 ∙ is)),
)

-- ---- a run goes on

pub kept_same : (t u : Seat) (slots : List Slot) → u.reads ≡ t.reads → IsKeptOf t slots → IsKeptOf u slots
kept_same t u slots e k =
    (λ c. k.0 c ∙ ap (λ (rs : List Read). option_map (λ (r : Read). r.word) (find_read c rs)) (sym e), k.1, k.2)
