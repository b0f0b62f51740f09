-- Chosen assertions beside those of a library, one more at a time.
use Rattle.std.proofs.Common.{◌≡◌, ◌∙◌, ℕ, ◌+◌, ◌≤◌, Bool, true, false, List, [], ◌∷◌, ◌++◌, map, filter, take, drop, get_or, length, Option, Some, refl, sym, ap, arith, cond, subst}
use Rattle.std.specs.Prelude.{slice_get}
use Rattle.std.specs.Borrow.{Bor}
use Rattle.std.specs.List.{zip}
use Rattle.std.specs.Option.{option_map}
use Rattle.std.proofs.lemmas.List.{map-append, append-nil, length-append, length-map, take-append-drop, get_or-map}
use Rattle.std.proofs.lemmas.List.Elements.{filter_more, filter-append}
use Rattle.std.proofs.lemmas.Option.{slice_get-map, slice_get_within, get_or_from_slice_get, same_Some}
use Rattle.mmtext.specs.Words.{Word}
use Rattle.mmsyntax.specs.declared.statement.Assertion.{Assertion as Unit'}
use Rattle.source.specs.Scopes.{Assertion, Pair, is_in}
use Rattle.taking.specs.Reasons.{Choice}

-- a pair of words of texts
abbrev pub seen : Bor (List ℕ) × Bor (List ℕ) → Pair
seen p = (p.0.now, p.1.now)

-- the labels of those that are chosen
abbrev pub chosen_among : Choice → List Assertion → List Word
chosen_among choice xs = map (λ x. x.label) (filter (λ x. is_in choice.chosen x.label) xs)

-- labels beside those of a library, of which there are enough
pub record ArePaired (labels : List Word) (library : List Unit') (ps : List Pair) : Type 0 where
  pub pairs : ps ≡ zip labels (map (λ a. a.label) library)
  pub enough : length labels ≡ length ps

-- ---- labels beside labels

zip_more : (ks vs : List Word) (k v : Word) → slice_get vs (length ks) ≡ Some v → zip (ks ++ k ∷ []) vs ≡ zip ks vs ++ (k, v) ∷ []
zip_more [] [] k v h = absurd cc
zip_more [] (w ∷ vs) k v h = let same : w ≡ v = cc in ap (λ u. (k, u) ∷ []) same
zip_more (x ∷ ks) [] k v h = absurd cc
zip_more (x ∷ ks) (w ∷ vs) k v h = ap (λ ps. (x, w) ∷ ps) (zip_more ks vs k v h)

-- where the library has no more, what comes is left out
zip_past : (ks more vs : List Word) → length vs ≤ length ks → zip (ks ++ more) vs ≡ zip ks vs
zip_past [] [] [] h = refl
zip_past [] (m ∷ more) [] h = refl
zip_past [] more (v ∷ vs) h = absurd (omega arith)
zip_past (x ∷ ks) more [] h = refl
zip_past (x ∷ ks) more (v ∷ vs) h = ap (λ ps. (x, v) ∷ ps) (zip_past ks more vs (omega arith))

-- ---- assertions

-- the label that is found at a place is that of the assertion there
pub label_is : (l : Bor (List ℕ)) (r : Option (Bor (List ℕ))) (x : Assertion) (o : Option Assertion) → r ≡ Some l
    → option_map (λ w. w.now) r ≡ option_map (λ a. a.label) o → o ≡ Some x → l.now ≡ x.label
label_is l r x o found says at =
    same_Some l.now x.label
    (ap (option_map (λ (w : Bor (List ℕ)). w.now)) (sym found) ∙ says ∙ ap (option_map (λ (a : Assertion). a.label)) at)

-- what is chosen goes on
chosen_past : (choice : Choice) (i : ℕ) (xs : List Assertion)
    → chosen_among choice xs ≡ chosen_among choice (take i xs) ++ chosen_among choice (drop i xs)
chosen_past choice i xs =
    let is : Assertion → Bool = λ x. is_in choice.chosen x.label in
    ap (chosen_among choice) (sym (take-append-drop i xs))
    ∙ ap (map (λ x. x.label)) (filter-append is (take i xs) (drop i xs))
    ∙ map-append (λ (x : Assertion). x.label) (filter is (take i xs)) (filter is (drop i xs))

module _ (choice : Choice) (xs : List Assertion) (flags : List Bool) (i : ℕ) (x : Assertion) (there : slice_get xs i ≡ Some x)
    (are : map (λ (x : Assertion). is_in choice.chosen x.label) xs ≡ flags) where
  pub flag_is : get_or flags i false ≡ is_in choice.chosen x.label
  flag_is =
      ap (λ fs. get_or fs i false) (sym are)
      ∙ get_or-map (λ (x : Assertion). is_in choice.chosen x.label) xs i x false (slice_get_within xs i x there)
      ∙ ap (λ (y : Assertion). is_in choice.chosen y.label) (get_or_from_slice_get xs i x x there)

  next : (b : Bool) → get_or flags i false ≡ b
      → chosen_among choice (take (i + 1) xs) ≡ chosen_among choice (take i xs) ++ map (λ (y : Assertion). y.label) (cond b (x ∷ []) [])
  next b flag =
      let is : Assertion → Bool = λ x. is_in choice.chosen x.label in
      let front = take i xs in
      let one : Assertion → List Assertion = λ y. cond (is y) (y ∷ []) [] in
      ap (map (λ y. y.label)) (filter_more is xs i x (slice_get_within xs i x there))
      ∙ map-append (λ (y : Assertion). y.label) (filter is front) (one (get_or xs i x))
      ∙ ap (λ (y : Assertion). chosen_among choice front ++ map (λ (y : Assertion). y.label) (one y)) (get_or_from_slice_get xs i x x there)
      ∙ ap (λ (t : Bool). chosen_among choice front ++ map (λ (y : Assertion). y.label) (cond t (x ∷ []) [])) (sym flag_is ∙ flag)

  pub paired_more : (library : List Unit') (ps : List Pair) (a : Unit') (w : Word) → get_or flags i false ≡ true → w ≡ x.label
      → slice_get library (length ps) ≡ Some a → ArePaired (chosen_among choice (take i xs)) library ps
      → ArePaired (chosen_among choice (take (i + 1) xs)) library (ps ++ (w, a.label) ∷ [])
  paired_more library ps a w flag is at before =
      let front = chosen_among choice (take i xs) in
      let labels = map (λ (a : Unit'). a.label) library in
      let at_label : slice_get labels (length front) ≡ Some a.label =
      ap (slice_get labels) before.enough ∙ slice_get-map (λ (a : Unit'). a.label) library (length ps)
      ∙ ap (option_map (λ (a : Unit'). a.label)) at in
      let more = next true flag in
      record {
        pairs =
            ap (λ (v : Word). ps ++ (v, a.label) ∷ []) is
            ∙ ap (λ (qs : List Pair). qs ++ (x.label, a.label) ∷ []) before.pairs
            ∙ sym (zip_more front labels x.label a.label at_label)
            ∙ ap (λ (ks : List Word). zip ks labels) (sym more);
        enough =
            ap length more
            ∙ length-append front (x.label ∷ [])
            ∙ ap (λ (n : ℕ). n + 1) before.enough
            ∙ sym (length-append ps ((w, a.label) ∷ []));
      }

  pub paired_same : (library : List Unit') (ps : List Pair) → get_or flags i false ≡ false
      → ArePaired (chosen_among choice (take i xs)) library ps → ArePaired (chosen_among choice (take (i + 1) xs)) library ps
  paired_same library ps flag before =
      subst (λ (ks : List Word). ArePaired ks library ps) (sym (next false flag ∙ append-nil (chosen_among choice (take i xs)))) before

-- a library with no more assertions
pub paired_past : (choice : Choice) (xs : List Assertion) (i : ℕ) (library : List Unit') (ps : List Pair) → length library ≤ length ps
    → ArePaired (chosen_among choice (take i xs)) library ps → ps ≡ zip (chosen_among choice xs) (map (λ a. a.label) library)
paired_past choice xs i library ps few before =
    let front = chosen_among choice (take i xs) in
    let labels = map (λ (a : Unit'). a.label) library in
    let short : length labels ≤ length front = omega (arith, length-map library (λ (a : Unit'). a.label), before.enough) in
    before.pairs
    ∙ sym (zip_past front (chosen_among choice (drop i xs)) labels short)
    ∙ ap (λ (ks : List Word). zip ks labels) (sym (chosen_past choice i xs))
