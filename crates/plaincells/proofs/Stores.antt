-- The ranges of a store at the places that are taken.
use Rattle.std.proofs.Common.{◌≡◌, ◌≢◌, ℕ, zero, suc, ◌+◌, List, [], ◌∷◌, ◌++◌, length, get_or, take, drop, inl, inr, refl, sym, ap, subst, ◌∙◌, arith, true, length-append, length-drop}
use Rattle.std.specs.Prelude.{◌⊎◌, ◌<◌, ◌≤◌, Some, slice_get, ◌==◌, ◌||◌}
use Rattle.std.specs.List.{list_any}
use Rattle.std.proofs.lemmas.Bool.{eqb-true, eq-eqb, or_cases, or_right}
use Rattle.std.proofs.lemmas.List.{map-append, take-append-le, drop-append-le}
use Rattle.std.proofs.Math.Seq.{drop-append_seam, take-length}
use Rattle.std.proofs.lemmas.Option.{slice_get_within, slice_get-get_or, get_or_from_slice_get}
use Rattle.ranges.specs.Ranges.{Range, Has, Within, Names, AreOfOneStore, IsStored, word_of}
use Rattle.ranges.specs.declared.range.Range.{Range as Span}
use Rattle.ranges.proofs.Grown.{names_grow}
use Rattle.ranges.proofs.Stored.{stored_coherent, below_tail}
use Rattle.plaincells.specs.Plain.{range_in, ranges_in, behind, LieInStore, names, HoldNames}
use Rattle.std.proofs.lemmas.Grind.{common_steps}
use Rattle.plaincells.proofs.Logs.{has_front, has_last}

-- ---- the words of a place

pub has_some : (words : List ℕ) → words ≢ [] → 0 < length words
has_some [] ne = absurd (ne refl)
has_some (w ∷ words) ne = omega arith

-- a word at a place is a word of the store
slice_get-part : (store : List ℕ) (start len i w : ℕ) → slice_get (take len (drop start store)) i ≡ Some w
    → (slice_get store (start + i) ≡ Some w) × (start + i < length store)
slice_get-part store start len i w h =
    let lt : i < length (take len (drop start store)) = slice_get_within (take len (drop start store)) i w h in
    let long : i < len = grind (arith, common_steps) in
    let within : start + i < length store = grind (arith, common_steps) in
    let at : get_or (take len (drop start store)) i 0 ≡ w = get_or_from_slice_get (take len (drop start store)) i w 0 h in
    let same : get_or (take len (drop start store)) i 0 ≡ get_or store (start + i) 0 = grind (arith, common_steps) in
    (slice_get-get_or store (start + i) 0 within ∙ ap (λ (x : ℕ). Some x) (sym same ∙ at), within)

-- a place that lies in the store has as many words as it says
pub length-range_in : (store : List ℕ) (r : Span) → r.start + r.len ≤ length store → length (range_in store r).words ≡ r.len
length-range_in store r lt = grind (arith, common_steps)

-- ---- the ranges

-- a range is that of one of the places
pub place_of : (store : List ℕ) (places : List Span) (x : Range) → Has x (ranges_in store places)
    → (i : ℕ) × (r : Span) × (slice_get places i ≡ Some r) × (x ≡ range_in store r)
place_of store [] x h = absurd h
place_of store (r ∷ places) x (inl e) = (zero, r, refl, e)
place_of store (r ∷ places) x (inr h) = let f = place_of store places x h in (suc f.0, f.1, f.2, f.3)

pub stored_in : (store : List ℕ) (places : List Span) (x : Range) → Has x (ranges_in store places) → IsStored (length store) store x
stored_in store places x h i w at =
    let f = place_of store places x h in
    let there : slice_get (range_in store f.1).words i ≡ Some w = subst (λ (y : Range). slice_get y.words i ≡ Some w) f.3 at in
    let start : x.start ≡ f.1.start = ap (λ (y : Range). y.start) f.3 in
    subst (λ (n : ℕ). (slice_get store (n + i) ≡ Some w) × (n + i < length store)) (sym start)
    (slice_get-part store f.1.start f.1.len i w there)

-- they are of one store
pub of_one_store : (room : ℕ) (store : List ℕ) (places : List Span) → length store ≤ room → AreOfOneStore room (ranges_in store places)
of_one_store room store places fits = (
  λ x h i lt. let b = below_tail (length store) store x i (stored_in store places x h) lt in omega (arith, b, fits),
  stored_coherent (length store) store (ranges_in store places) (stored_in store places),
)

-- ---- more of the store

lie_later : (store : List ℕ) (r : Span) (places : List Span) → LieInStore store (r ∷ places) → LieInStore store places
lie_later store r places lie i q at = lie (suc i) q at

range_in-more : (store more : List ℕ) (r : Span) → r.start + r.len ≤ length store → range_in (store ++ more) r ≡ range_in store r
range_in-more store more r lt =
    let before : r.start ≤ length store = omega arith in
    let rest : r.len ≤ length (drop r.start store) = omega (arith, length-drop r.start store) in
    let words : take r.len (drop r.start (store ++ more)) ≡ take r.len (drop r.start store) =
    ap (take r.len) (drop-append-le r.start store more before) ∙ take-append-le r.len (drop r.start store) more rest in
    λ i. record { start = r.start; words = words i }

-- what lies in the store stays as it is
pub ranges_in-more : (store more : List ℕ) (places : List Span) → LieInStore store places
    → ranges_in (store ++ more) places ≡ ranges_in store places
ranges_in-more store more [] lie = refl
ranges_in-more store more (r ∷ places) lie =
    let one = range_in-more store more r (lie zero r refl).1 in
    let others = ranges_in-more store more places (lie_later store r places lie) in
    λ i. one i ∷ others i

range_in-behind : (store words : List ℕ) → range_in (store ++ words) (behind store words) ≡ record { start = length store; words = words }
range_in-behind store words =
    let made : take (length words) (drop (length store) (store ++ words)) ≡ words =
    ap (take (length words)) (drop-append_seam store words) ∙ take-length words in
    λ i. record { start = length store; words = made i }

-- words that are put behind the store are one range more
pub ranges_in-staged : (store words : List ℕ) (places : List Span) → LieInStore store places
    → ranges_in (store ++ words) (places ++ behind store words ∷ [])
    ≡ ranges_in store places ++ record { start = length store; words = words } ∷ []
ranges_in-staged store words places lie =
    let one = range_in-behind store words in
    map-append (range_in (store ++ words)) places (behind store words ∷ [])
    ∙ (λ i. ranges_in-more store words places lie i ++ one i ∷ [])

pub within_staged : (store words : List ℕ) (places : List Span) → LieInStore store places
    → Within (ranges_in store places) (ranges_in (store ++ words) (places ++ behind store words ∷ []))
within_staged store words places lie x h =
    subst (Has x) (sym (ranges_in-staged store words places lie)) (has_front x (ranges_in store places) _ h)

pub has_staged : (store words : List ℕ) (places : List Span) → LieInStore store places
    → Has (record { start = length store; words = words }) (ranges_in (store ++ words) (places ++ behind store words ∷ []))
has_staged store words places lie =
    subst (Has (record { start = length store; words = words })) (sym (ranges_in-staged store words places lie))
    (has_last (record { start = length store; words = words }) (ranges_in store places))

pub lie_more : (store more : List ℕ) (places : List Span) → LieInStore store places → LieInStore (store ++ more) places
lie_more store more places lie i r at = let l = lie i r at in (l.0, omega (arith, l.1, length-append store more))

lie_push : (store : List ℕ) (places : List Span) (r : Span) → LieInStore store places → (0 < r.len) × (r.start + r.len ≤ length store)
    → LieInStore store (places ++ r ∷ [])
lie_push store [] r lie l zero q at =
    subst (λ (x : Span). (0 < x.len) × (x.start + x.len ≤ length store)) (let e : r ≡ q = cc in e) l
lie_push store [] r lie l (suc i) q at = absurd cc
lie_push store (x ∷ places) r lie l zero q at = lie zero q at
lie_push store (x ∷ places) r lie l (suc i) q at = lie_push store places r (lie_later store x places lie) l i q at

pub lie_staged : (store words : List ℕ) (places : List Span) → 0 < length words → LieInStore store places
    → LieInStore (store ++ words) (places ++ behind store words ∷ [])
lie_staged store words places some lie =
    lie_push (store ++ words) places (behind store words) (lie_more store words places lie) (some, omega (arith, length-append store words))

-- ---- the words of a range

-- a range that is known lies in the store, with its words
pub known_words : (store : List ℕ) (places : List Span) (start len : ℕ) (words : List ℕ) → LieInStore store places
    → Has (record { start = start; words = words }) (ranges_in store places) → len ≡ length words
    → (start + len ≤ length store) × ((i : ℕ) → i < len → slice_get words i ≡ Some (get_or store (start + i) 0))
    × (words ≡ take len (drop start store))
known_words store places start len words lie h long =
    let f = place_of store places (record { start = start; words = words }) h in
    let l = lie f.0 f.1 f.2 in
    let at : start ≡ f.1.start = ap (λ (y : Range). y.start) f.3 in
    let made : words ≡ take f.1.len (drop f.1.start store) = ap (λ (y : Range). y.words) f.3 in
    let n : length words ≡ f.1.len = ap (λ (ws : List ℕ). length ws) made ∙ length-range_in store f.1 l.1 in (
      omega (arith, l.1, at, n, long),
      λ i lt.
          let there : slice_get words i ≡ Some (get_or words i 0) = slice_get-get_or words i 0 (omega (arith, long)) in
          let in_store = stored_in store places (record { start = start; words = words }) h i (get_or words i 0) there in
          there ∙ sym in_store.0 ∙ slice_get-get_or store (start + i) 0 in_store.1,
      made ∙ ap (λ (k : ℕ). take k (drop f.1.start store)) (sym (long ∙ n)) ∙ ap (λ (k : ℕ). take len (drop k store)) (sym at),
    )

-- ---- words that name ranges

some_named : (ranges : List Range) (w : ℕ) → list_any (λ r. word_of r == w) ranges ≡ true → (r : Range) × Has r ranges × (w ≡ word_of r)
some_named [] w h = absurd cc
some_named (r ∷ ranges) w h =
    elim (or_cases (word_of r == w) (list_any (λ q. word_of q == w) ranges) h)
    as (λ _. (q : Range) × Has q (r ∷ ranges) × (w ≡ word_of q)) [
      | inl e ↦ (r, inl refl, sym (eqb-true (word_of r) w e))
      | inr l ↦ let f = some_named ranges w l in (f.0, inr f.1, f.2)
    ]

-- the test says that the word names one of the ranges
pub names_true : (ranges : List Range) (w : ℕ) → names ranges w ≡ true → Names ranges w
names_true ranges w h = go (or_cases (w == 0) (list_any (λ r. word_of r == w) ranges) h)
  where
    go : ((w == 0) ≡ true) ⊎ (list_any (λ q. word_of q == w) ranges ≡ true) → Names ranges w
    go (inl e) = inl (eqb-true w 0 e)
    go (inr l) = inr (some_named ranges w l)

any_named : (ranges : List Range) (w : ℕ) (r : Range) → Has r ranges → w ≡ word_of r → list_any (λ q. word_of q == w) ranges ≡ true
any_named [] w r h e = absurd h
any_named (q ∷ ranges) w r (inl same) e =
    ap (λ b. b || list_any (λ p. word_of p == w) ranges) (eq-eqb (word_of q) w (sym (e ∙ ap (λ (x : Range). word_of x) same)))
any_named (q ∷ ranges) w r (inr h) e = or_right (word_of q == w) (list_any (λ p. word_of p == w) ranges) (any_named ranges w r h e)

pub true_names : (ranges : List Range) (w : ℕ) → Names ranges w → names ranges w ≡ true
true_names ranges w (inl e) = ap (λ b. b || list_any (λ p. word_of p == w) ranges) (eq-eqb w 0 e)
true_names ranges w (inr f) = or_right (w == 0) (list_any (λ p. word_of p == w) ranges) (any_named ranges w f.0 f.1 f.2)

-- what names a range names one of more ranges
pub hold_more : (slots : ℕ) (values : List ℕ) (ranges more : List Range) → Within ranges more → HoldNames slots values ranges
    → HoldNames slots values more
hold_more slots values ranges more within hold c v at ranged =
    true_names more v (names_grow ranges more v within (names_true ranges v (hold c v at ranged)))
