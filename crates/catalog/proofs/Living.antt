-- The library of entries by places: what is true of its assertions is true of those at the places.
use Rattle.std.proofs.Common.{◌≡◌, ℕ, zero, suc, ◌<◌, Bool, true, false, List, [], ◌∷◌, Option, None, Some, length, get_or, map, refl, sym}
use Rattle.std.proofs.Common.{ap, subst, ◌∙◌, inl, inr, arith}
use Rattle.std.specs.Prelude.{◌||◌}
use Rattle.std.specs.List.{list_any, count_by, slice_get, Contains}
use Rattle.std.specs.Option.{is_some}
use Rattle.std.specs.Str.{bytes_eq}
use Rattle.std.proofs.lemmas.Bool.{cases_Bool, both_ways}
use Rattle.std.proofs.lemmas.List.Elements.{Contains-append_right}
use Rattle.std.proofs.lemmas.List.Sums.{sum_by-cons}
use Rattle.mmsyntax.specs.Assertions.{Distinct}
use Rattle.mmsyntax.proofs.Distinct.{both_false}
use Rattle.mmsyntax.proofs.Names.{same_bytes}
use Rattle.library.specs.declared.library.Ranked.{Ranked}
use Rattle.library.specs.Library.{label_of}
use Rattle.library.specs.Edits.{has, found, is_labelled}
use Rattle.library.proofs.Counts.{one_if}
use Rattle.library.proofs.Places.{has_at, has-labels, find_at}
use Rattle.catalog.specs.Entries.{Entries, living, StandsIn}
use Rattle.catalog.specs.Places.{Places, place_in, IsIndex, StandsAt, FoundAt}
use Rattle.catalog.specs.Testing.{passes_there}

-- ---- tests of each assertion

pub any-living : (p : Ranked → Bool) (xs : Entries) → list_any p (living xs) ≡ list_any (passes_there p) xs
any-living p [] = refl
any-living p (None ∷ xs) = any-living p xs
any-living p (Some e ∷ xs) = ap (λ b. p e || b) (any-living p xs)

pub count-living : (p : Ranked → Bool) (xs : Entries) → count_by p (living xs) ≡ count_by (passes_there p) xs
count-living p [] = refl
count-living p (None ∷ xs) = omega (arith, count-living p xs, sum_by-cons (one_if (passes_there p)) None xs)
count-living p (Some e ∷ xs) =
    omega (arith, count-living p xs, sum_by-cons (one_if p) e (living xs), sum_by-cons (one_if (passes_there p)) (Some e) xs)

-- none passes where none at a place does
pub none-living : (p : Ranked → Bool) (xs : Entries) → ((i : ℕ) (e : Ranked) → StandsIn xs i e → p e ≡ false)
    → list_any p (living xs) ≡ false
none-living p [] h = refl
none-living p (None ∷ xs) h = none-living p xs (λ i e at. h (suc i) e at)
none-living p (Some e ∷ xs) h = both_false (p e) (list_any p (living xs)) (h zero e refl) (none-living p xs (λ i f at. h (suc i) f at))

-- ---- the assertions

pub stands-living : (xs : Entries) (i : ℕ) (e : Ranked) → StandsIn xs i e → Contains (living xs) e
stands-living [] i e at = absurd cc
stands-living (None ∷ xs) zero e at = absurd cc
stands-living (None ∷ xs) (suc i) e at = stands-living xs i e at
stands-living (Some x ∷ xs) zero e at = (0, omega arith, let same : x ≡ e = cc in same)
stands-living (Some x ∷ xs) (suc i) e at = Contains-append_right (x ∷ []) (living xs) e (stands-living xs i e at)

living-stands : (xs : Entries) (k : ℕ) (d : Ranked) → k < length (living xs) → (i : ℕ) × StandsIn xs i (get_or (living xs) k d)
living-stands [] k d lt = absurd (omega arith)
living-stands (None ∷ xs) k d lt = let later = living-stands xs k d lt in (suc later.0, later.1)
living-stands (Some x ∷ xs) zero d lt = (zero, refl)
living-stands (Some x ∷ xs) (suc k) d lt = let later = living-stands xs k d (omega arith) in (suc later.0, later.1)

pub contained-stands : (xs : Entries) (e : Ranked) → Contains (living xs) e → (i : ℕ) × StandsIn xs i e
contained-stands xs e at =
    let stands = living-stands xs at.0 e at.1 in
    (stands.0, subst (StandsIn xs stands.0) at.2 stands.1)

-- ---- labels

-- where one has the label, the library has it
pub stands-has : (xs : Entries) (w : List ℕ) (i : ℕ) → StandsAt xs w i → has (living xs) w ≡ true
stands-has xs w i s =
    let at = stands-living xs i s.entry s.at in
    has_at (living xs) w at.0 s.entry at.1 (ap label_of at.2 ∙ s.labelled)

-- where none has it at a place, the library does not
pub none-has : (xs : Entries) (w : List ℕ) → ((i : ℕ) (e : Ranked) → StandsIn xs i e → bytes_eq w (label_of e) ≡ false)
    → has (living xs) w ≡ false
none-has xs w h = none-living (is_labelled w) xs h

pub has-not-at : (xs : Entries) (w : List ℕ) (i : ℕ) (e : Ranked) → has (living xs) w ≡ false → StandsIn xs i e
    → bytes_eq w (label_of e) ≡ false
has-not-at xs w i e free at =
    elim (cases_Bool (bytes_eq w (label_of e))) [
      | inl y ↦ absurd (both_ways (has (living xs) w) free
          (stands-has xs w i (record { entry = e; at = at; labelled = sym (same_bytes w (label_of e) y) })))
      | inr n ↦ n
    ]

-- ---- entries with a map of their places

-- one label stands at one place
pub one-place : (m : Places) (xs : Entries) (i j : ℕ) (e f : Ranked) → IsIndex m xs → StandsIn xs i e → StandsIn xs j f
    → label_of e ≡ label_of f → i ≡ j
one-place m xs i j e f x at_i at_j same =
    let places : Some i ≡ Some j = sym (x.finds i e at_i) ∙ ap (place_in m) same ∙ x.finds j f at_j in
    cc

-- no assertion has a label where none stands at the place that the map has for it
pub absent : (m : Places) (xs : Entries) (w : List ℕ) → IsIndex m xs
    → ((i : ℕ) (e : Ranked) → place_in m w ≡ Some i → StandsIn xs i e → bytes_eq w (label_of e) ≡ false) → has (living xs) w ≡ false
absent m xs w x h = none-has xs w (λ i e at.
    elim (cases_Bool (bytes_eq w (label_of e))) [
      | inl y ↦ h i e (ap (place_in m) (same_bytes w (label_of e) y) ∙ x.finds i e at) at
      | inr n ↦ n
    ])

-- labels differ
pub labels-distinct : (m : Places) (xs : Entries) → IsIndex m xs → Distinct bytes_eq (map label_of (living xs))
labels-distinct m xs x = distinct xs (λ i j e f at_i at_j same. one-place m xs i j e f x at_i at_j same)
  where
    distinct : (ys : Entries) → ((i j : ℕ) (e f : Ranked) → StandsIn ys i e → StandsIn ys j f → label_of e ≡ label_of f → i ≡ j)
        → Distinct bytes_eq (map label_of (living ys))
    distinct [] one = tt
    distinct (None ∷ ys) one = distinct ys (λ i j e f at_i at_j same. let k = one (suc i) (suc j) e f at_i at_j same in omega arith)
    distinct (Some e ∷ ys) one = (
      has-labels (living ys) (label_of e)
          ∙ none-has ys (label_of e) (λ i f at.
          elim (cases_Bool (bytes_eq (label_of e) (label_of f))) [
            | inl y ↦ absurd (let k = one zero (suc i) e f refl at (same_bytes (label_of e) (label_of f) y) in omega arith)
            | inr n ↦ n
          ]),
      distinct ys (λ i j f g at_i at_j same. let k = one (suc i) (suc j) f g at_i at_j same in omega arith),
    )

-- the assertion with the label is the one at its place
pub found-at : (m : Places) (xs : Entries) (w : List ℕ) (i : ℕ) (e : Ranked) → IsIndex m xs → StandsIn xs i e → label_of e ≡ w
    → found (living xs) w ≡ Some e
found-at m xs w i e x stands own =
    let at = stands-living xs i e stands in
    find_at (living xs) w at.0 e (labels-distinct m xs x) at.1 (ap label_of at.2 ∙ own) ∙ ap (λ f. Some f) at.2

-- what a look-up of a label found
pub some-known : (xs : Entries) (w : List ℕ) (o : Option ℕ) → FoundAt xs w o → is_some o ≡ has (living xs) w
some-known xs w None h = sym h
some-known xs w (Some i) h = sym (stands-has xs w i h)

-- where an assertion stands, it is what is read
pub stands-read : (xs : Entries) (i : ℕ) (e : Ranked) (o : Option Ranked) → StandsIn xs i e → slice_get xs i ≡ Some o → o ≡ Some e
stands-read xs i e o at read =
    let both : Some o ≡ Some (Some e) = sym read ∙ at in
    cc
