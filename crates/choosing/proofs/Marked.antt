-- One more label: the assertion that has it is marked, and no other.
use Rattle.std.proofs.Common.{◌≡◌, ◌<◌, ℕ, suc, zero, Bool, true, false, List, [], ◌∷◌, length, map, take, get_or, set, Some}
use Rattle.std.proofs.Common.{None, ◌+◌, refl, sym, ap, subst, ◌∙◌, arith, add-one}
use Rattle.std.proofs.Common.{Bor}
use Rattle.std.specs.Prelude.{◌||◌, slice_get, slice_index_or, is_some, All}
use Rattle.std.specs.Option.{option_map}
use Rattle.std.specs.List.{list_any}
use Rattle.std.specs.Str.{bytes_eq}
use Rattle.std.proofs.Math.Bool.{or_assoc}
use Rattle.std.proofs.lemmas.Bool.{or_parts, or_right}
use Rattle.std.proofs.lemmas.Option.{slice_get-get_or, get_or_from_slice_get, slice_get_within}
use Rattle.mmtext.specs.Words.{Word}
use Rattle.mmtext.proofs.Marks.{same_word}
use Rattle.mmsyntax.specs.Tables.{place_of}
use Rattle.mmsyntax.specs.Assertions.{Distinct}
use Rattle.mmsyntax.proofs.Names.{bytes_eq-same, bytes_eq-sym, place_of-at, swap_or}
use Rattle.mmsyntax.proofs.Distinct.{any-map, is_some-place_of}
use Rattle.source.specs.Scopes.{Assertion, is_in}
use Rattle.source.specs.Views.{seen_words}
use Rattle.taking.specs.Nodes.{Shared}
use Rattle.taking.proofs.Values.{mapped}
use Rattle.choosing.specs.Marks.{AreMarked, is_named}

-- ---- tests

each_same : (p q : Word → Bool) → ((w : Word) → p w ≡ q w) → (xs : List Assertion) → map (λ x. q x.label) xs ≡ map (λ x. p x.label) xs
each_same p q same [] = refl
each_same p q same (x ∷ xs) =
    ap (λ b. b ∷ map (λ x. q x.label) xs) (sym (same x.label)) ∙ ap (λ bs. p x.label ∷ bs) (each_same p q same xs)

-- two tests that agree mark the same
pub marks_agree : (xs : List Assertion) (p q : Word → Bool) (marks : List Bool) → ((w : Word) → p w ≡ q w) → AreMarked xs p marks
    → AreMarked xs q marks
marks_agree xs p q marks same are = each_same p q same xs ∙ are

-- one more item
pub any_more : {A : Type 0} (p : A → Bool) (xs : List A) (i : ℕ) (x : A) → slice_get xs i ≡ Some x
    → list_any p (take (suc i) xs) ≡ (p x || list_any p (take i xs))
any_more p [] i x is = absurd cc
any_more p (y ∷ ys) zero x is = let e : y ≡ x = cc in ap (λ z. p z || false) e
any_more p (y ∷ ys) (suc i) x is = ap (λ b. p y || b) (any_more p ys i x is) ∙ swap_or (p y) (p x) (list_any p (take i ys))

-- ---- one label

-- no assertion has the label
unmarked : (xs : List Assertion) (w : Word) (test : Word → Bool) → list_any (λ x. bytes_eq w x.label) xs ≡ false
    → map (λ x. bytes_eq x.label w || test x.label) xs ≡ map (λ x. test x.label) xs
unmarked [] w test none = refl
unmarked (x ∷ xs) w test none =
    let both = or_parts (bytes_eq w x.label) (list_any (λ x. bytes_eq w x.label) xs) none in
    ap (λ b. (b || test x.label) ∷ map (λ x. bytes_eq x.label w || test x.label) xs) (bytes_eq-sym x.label w ∙ both.0)
    ∙ ap (λ bs. test x.label ∷ bs) (unmarked xs w test both.1)

other_label : (xs : List Assertion) (k : ℕ) (x : Assertion) (w : Word) → list_any (λ x. bytes_eq w x.label) xs ≡ false
    → slice_get xs k ≡ Some x → bytes_eq w x.label ≡ false
other_label [] k x w none is = absurd cc
other_label (y ∷ ys) zero x w none is =
    let e : y ≡ x = cc in
    ap (λ (z : Assertion). bytes_eq w z.label) (sym e) ∙ (or_parts (bytes_eq w y.label) (list_any (λ x. bytes_eq w x.label) ys) none).0
other_label (y ∷ ys) (suc k) x w none is =
    other_label ys k x w (or_parts (bytes_eq w y.label) (list_any (λ x. bytes_eq w x.label) ys) none).1 is

-- the mark of the assertion at a place
pub marked_at : (xs : List Assertion) (k : ℕ) (x : Assertion) (test : Word → Bool) → Distinct bytes_eq (map (λ x. x.label) xs)
    → slice_get xs k ≡ Some x
    → map (λ y. bytes_eq y.label x.label || test y.label) xs ≡ set (map (λ y. test y.label) xs) k true
marked_at [] k x test d is = absurd cc
marked_at (y ∷ ys) zero x test d is =
    let e : y ≡ x = cc in
    let none = sym (any-map (bytes_eq y.label) (λ (z : Assertion). z.label) ys) ∙ d.0 in
    subst (λ (z : Assertion). map (λ y. bytes_eq y.label z.label || test y.label) (y ∷ ys)
    ≡ set (map (λ y. test y.label) (y ∷ ys)) 0 true) e
    (ap (λ b. (b || test y.label) ∷ map (λ z. bytes_eq z.label y.label || test z.label) ys) (bytes_eq-same y.label)
    ∙ ap (λ bs. true ∷ bs) (unmarked ys y.label test none))
marked_at (y ∷ ys) (suc k) x test d is =
    let none = sym (any-map (bytes_eq y.label) (λ (z : Assertion). z.label) ys) ∙ d.0 in
    ap (λ b. (b || test y.label) ∷ map (λ z. bytes_eq z.label x.label || test z.label) ys) (other_label ys k x y.label none is)
    ∙ ap (λ bs. test y.label ∷ bs) (marked_at ys k x test d.1 is)

-- an assertion is at the place, and has the label
pub found_at : (xs : List Assertion) (w : Word) (k : ℕ) → place_of (λ x. bytes_eq w x.label) xs ≡ Some k
    → (x : Assertion) × (slice_get xs k ≡ Some x) × (w ≡ x.label) × (k < length xs)
found_at [] w k h = absurd cc
found_at (y ∷ ys) w k h =
    let at = place_of-at (λ (x : Assertion). bytes_eq w x.label) (y ∷ ys) k y h in
    let x = get_or (y ∷ ys) k y in
    (x, slice_get-get_or (y ∷ ys) k y at.0, same_word w x.label at.1, at.0)

-- the mark of the assertion with a label
pub marked_found : (xs : List Assertion) (w : Word) (k : ℕ) (test : Word → Bool) (marks : List Bool)
    → Distinct bytes_eq (map (λ x. x.label) xs) → place_of (λ x. bytes_eq w x.label) xs ≡ Some k → AreMarked xs test marks
    → AreMarked xs (λ v. bytes_eq v w || test v) (set marks k true)
marked_found xs w k test marks d h are =
    let x = found_at xs w k h in
    subst (λ (v : Word). AreMarked xs (λ u. bytes_eq u v || test u) (set marks k true)) (sym x.2)
    (marked_at xs k x.0 test d x.1 ∙ ap (λ bs. set bs k true) are)

-- no assertion has it
pub marked_none : (xs : List Assertion) (w : Word) (test : Word → Bool) (marks : List Bool)
    → place_of (λ x. bytes_eq w x.label) xs ≡ None → AreMarked xs test marks → AreMarked xs (λ v. bytes_eq v w || test v) marks
marked_none xs w test marks h are =
    unmarked xs w test (sym (is_some-place_of (λ (x : Assertion). bytes_eq w x.label) xs) ∙ ap is_some h) ∙ are

-- nothing is marked
pub marked_nothing : (xs : List Assertion) (marks : List Bool) → map (λ x. false) xs ≡ marks → AreMarked xs (λ w. false) marks
marked_nothing xs marks h = h

-- ---- what nodes name

-- one more node
pub named_more : (xs : List Assertion) (labels : List Word) (nodes : List Shared) (i k : ℕ) (marks after : List Bool) (w : Word)
    → ((test : Word → Bool) → AreMarked xs test marks → AreMarked xs (λ v. bytes_eq v w || test v) after)
    → w ≡ slice_index_or labels k [] → option_map (λ n. n.named) (slice_get nodes i) ≡ Some k → (test : Word → Bool)
    → AreMarked xs (λ v. is_named labels (take i nodes) v || test v) marks
    → AreMarked xs (λ v. is_named labels (take (i + 1) nodes) v || test v) after
named_more xs labels nodes i k marks after w marked label names test are =
    let n = mapped (λ (m : Shared). m.named) (slice_get nodes i) k names in
    let at : w ≡ slice_index_or labels n.0.named [] = label ∙ ap (λ j. slice_index_or labels j []) (sym n.2) in
    marks_agree xs (λ v. bytes_eq v w || (is_named labels (take i nodes) v || test v))
    (λ v. is_named labels (take (i + 1) nodes) v || test v)
    after
    (λ v.
    sym (or_assoc (bytes_eq v w) (is_named labels (take i nodes) v) (test v))
    ∙ ap (λ u. (bytes_eq v u || is_named labels (take i nodes) v) || test v) at
    ∙ ap (λ b. b || test v) (sym (any_more (λ m. bytes_eq v (slice_index_or labels m.named [])) nodes i n.0 n.1))
    ∙ ap (λ j. is_named labels (take j nodes) v || test v) (sym (add-one i)))
    (marked (λ v. is_named labels (take i nodes) v || test v) are)

-- what a node names is there
pub named_there : (nodes : List Shared) (i k n : ℕ) → All (λ m. m.named < n) nodes → option_map (λ m. m.named) (slice_get nodes i) ≡ Some k
    → k < n
named_there nodes i k n all names =
    let m = mapped (λ (m : Shared). m.named) (slice_get nodes i) k names in
    let same : get_or nodes i m.0 ≡ m.0 = get_or_from_slice_get nodes i m.0 m.0 m.1 in
    let small : (get_or nodes i m.0).named < n = all i m.0 (slice_get_within nodes i m.0 m.1) in
    subst (λ (j : ℕ). j < n) m.2 (subst (λ (q : Shared). q.named < n) same small)

-- the label with a number
pub label_at : (labels : List (Bor (List ℕ))) (k : ℕ) (d : Bor (List ℕ)) → k < length labels
    → (get_or labels k d).now ≡ slice_index_or (seen_words labels) k []
label_at [] k d h = absurd (omega arith)
label_at (l ∷ ls) zero d h = refl
label_at (l ∷ ls) (suc k) d h = label_at ls k d (omega arith)

-- ---- the labels of a wish

-- a label is one of them
pub is_in_at : (labels : List (Bor (List ℕ))) (k : ℕ) (d : Bor (List ℕ)) → k < length labels
    → is_in (seen_words labels) (get_or labels k d).now ≡ true
is_in_at [] k d h = absurd (omega arith)
is_in_at (l ∷ ls) zero d h = ap (λ b. b || is_in (seen_words ls) l.now) (bytes_eq-same l.now)
is_in_at (l ∷ ls) (suc k) d h =
    or_right (bytes_eq (get_or ls k d).now l.now) (is_in (seen_words ls) (get_or ls k d).now) (is_in_at ls k d (omega arith))

pub any_grown : (test : Word → Bool) (labels : List (Bor (List ℕ))) (k : ℕ) (d : Bor (List ℕ)) → k < length labels
    → list_any test (seen_words (take (suc k) labels)) ≡ (test (get_or labels k d).now || list_any test (seen_words (take k labels)))
any_grown test [] k d h = absurd (omega arith)
any_grown test (l ∷ ls) zero d h = refl
any_grown test (l ∷ ls) (suc k) d h =
    ap (λ b. test l.now || b) (any_grown test ls k d (omega arith))
    ∙ swap_or (test l.now) (test (get_or ls k d).now) (list_any test (seen_words (take k ls)))

-- one more is marked
pub labels_more : (xs : List Assertion) (labels : List (Bor (List ℕ))) (k : ℕ) (d : Bor (List ℕ)) (marks after : List Bool)
    → k < length labels → AreMarked xs (is_in (seen_words (take k labels))) marks
    → ((test : Word → Bool) → AreMarked xs test marks → AreMarked xs (λ v. bytes_eq v (get_or labels k d).now || test v) after)
    → AreMarked xs (is_in (seen_words (take (k + 1) labels))) after
labels_more xs labels k d marks after h are more =
    marks_agree xs (λ v. bytes_eq v (get_or labels k d).now || is_in (seen_words (take k labels)) v)
    (is_in (seen_words (take (k + 1) labels))) after
    (λ v. sym (any_grown (bytes_eq v) labels k d h) ∙ ap (λ j. is_in (seen_words (take j labels)) v) (sym (add-one k)))
    (more (is_in (seen_words (take k labels))) are)
