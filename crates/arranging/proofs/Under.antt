-- Where an item stands, from a place on or in front of one, and which of them keep their places.
use Rattle.std.proofs.Common.{◌≡◌, ◌∙◌, ℕ, zero, suc, ◌<◌, ◌≤◌, List, [], ◌∷◌, ◌++◌, Some, length, take, drop}
use Rattle.std.proofs.Common.{Bool, false, true, refl, sym, ap, subst, arith, ◌+◌, ◌-◌, get_or, append-nil}
use Rattle.std.specs.Prelude.{◌||◌, ◌&&◌, slice_get, slice_range}
use mathlib.Core.Bool.{not}
use Rattle.std.specs.List.{list_any}
use Rattle.std.proofs.Math.Bool.{or-false}
use Rattle.std.proofs.lemmas.Bool.{or_parts}
use Rattle.std.proofs.lemmas.List.{take-append-drop, take-take, drop-drop}
use Rattle.std.proofs.lemmas.List.Folds.{list_any-append, list_any_more}
use Rattle.std.proofs.lemmas.Option.{slice_get_within, slice_get-get_or, get_or_from_slice_get}
use Rattle.mmtext.specs.Words.{Word}
use Rattle.source.specs.Scopes.{is_in}
use Rattle.items.specs.declared.reading.Kind.TheVariants.{Comment}
use Rattle.items.specs.declared.reading.Item.{Item as Found}
use Rattle.items.specs.Items.{Item, label_of, pieces_of}
use Rattle.items.specs.Reading.{AreFound, Stands}
use Rattle.items.proofs.Found.{behind_one}
use Rattle.arranging.specs.Parts.{Edited}
use Rattle.arranging.specs.Sections.{keeps}
use Rattle.arranging.specs.Places.{end_behind}

-- ---- places of lists

module _ {A : Type 0} where
  item_before : (xs : List A) (k place : ℕ) (x : A) → slice_get xs k ≡ Some x → k < place
      → take place xs ≡ take k xs ++ x ∷ slice_range xs (suc k) place
  item_before [] k place x at lt = absurd cc
  item_before (y ∷ xs) k zero x at lt = absurd (omega (arith, lt))
  item_before (y ∷ xs) zero (suc place) x at lt =
      let same : y ≡ x = cc in
      let n : place ≡ suc place - 1 = omega arith in
      ap (λ m. y ∷ take m xs) n ∙ ap (λ z. z ∷ take (suc place - 1) xs) same
  item_before (y ∷ xs) (suc k) (suc place) x at lt =
      let n : place - suc k ≡ suc place - suc (suc k) = omega arith in
      ap (λ ys. y ∷ ys) (item_before xs k place x at (omega (arith, lt))) ∙ ap (λ m. y ∷ (take k xs ++ x ∷ take m (drop (suc k) xs))) n

  -- an item in front of a place, and those between them
  pub cut_before : (xs : List A) (k place : ℕ) (x : A) → slice_get xs k ≡ Some x → k < place
      → take place xs ≡ take k xs ++ x ∷ slice_range xs (k + 1) place
  cut_before xs k place x at lt =
      let n : suc k ≡ k + 1 = omega arith in
      item_before xs k place x at lt ∙ ap (λ m. take k xs ++ x ∷ slice_range xs m place) n

  -- those from a place up to another
  pub cut_between : (xs : List A) (a b : ℕ) → a ≤ b → drop a xs ≡ slice_range xs a b ++ drop b xs
  cut_between xs a b le =
      let n : a + (b - a) ≡ b = omega (arith, le) in
      sym (take-append-drop (b - a) (drop a xs))
      ∙ ap (λ l. slice_range xs a b ++ l) (drop-drop (b - a) a xs ∙ ap (λ m. drop m xs) n)

  item_here : (xs : List A) (k : ℕ) (x : A) → slice_get xs k ≡ Some x → drop k xs ≡ x ∷ drop (suc k) xs
  item_here [] k x at = absurd cc
  item_here (y ∷ xs) zero x at = let same : y ≡ x = cc in ap (λ z. z ∷ xs) same
  item_here (y ∷ xs) (suc k) x at = item_here xs k x at

  -- an item behind a place, and those between them
  pub cut_behind : (xs : List A) (place k : ℕ) (x : A) → slice_get xs k ≡ Some x → place ≤ k
      → drop place xs ≡ slice_range xs place k ++ x ∷ drop (suc k) xs
  cut_behind xs place k x at le = cut_between xs place k le ∙ ap (λ l. slice_range xs place k ++ l) (item_here xs k x at)

  -- ---- none of them passes a test

  module _ (p : A → Bool) where
    pub none_in_front : (xs : List A) (n : ℕ) → list_any p xs ≡ false → list_any p (take n xs) ≡ false
    none_in_front xs n none =
        (or_parts (list_any p (take n xs)) (list_any p (drop n xs))
        (sym (list_any-append p (take n xs) (drop n xs)) ∙ (ap (list_any p) (take-append-drop n xs) ∙ none))).0

    pub none_up_to : (xs : List A) (n k : ℕ) → n ≤ k → list_any p (take k xs) ≡ false → list_any p (take n xs) ≡ false
    none_up_to xs n k le none = ap (list_any p) (sym (take-take n k xs le)) ∙ none_in_front (take k xs) n none

    pub none_more : (xs : List A) (k : ℕ) (x : A) → slice_get xs k ≡ Some x → p x ≡ false → list_any p (take k xs) ≡ false
        → list_any p (take (k + 1) xs) ≡ false
    none_more xs k x at fails none =
        list_any_more p xs k x (slice_get_within xs k x at)
        ∙ (ap (λ b. b || p (get_or xs k x)) none ∙ (ap p (get_or_from_slice_get xs k x x at) ∙ fails))

-- ---- what keeps its place

pub not_back : (a b : Bool) → a ≡ not b → b ≡ not a
not_back a true e = ap not (sym e)
not_back a false e = ap not (sym e)

module _ (e : Edited) (x : Item) where
  pub keeps_label : (label : Word) → label_of x ≡ label ∷ [] → (is_in e.library label && not (is_in e.moving label)) ≡ keeps e x
  keeps_label label has =
      sym (ap (list_any (λ l. is_in e.library l && not (is_in e.moving l))) has
      ∙ or-false (is_in e.library label && not (is_in e.moving label)))

  pub keeps_none : label_of x ≡ [] → false ≡ keeps e x
  keeps_none has = sym (ap (list_any (λ l. is_in e.library l && not (is_in e.moving l))) has)

-- ---- bytes

pub end_behind_one : (at : ℕ) (fs : List Found) (k : ℕ) (f : Found) → slice_get fs k ≡ Some f → end_behind at fs (suc k) ≡ f.end
end_behind_one at [] k f is = absurd cc
end_behind_one at (g ∷ fs) zero f is = let same : g ≡ f = cc in ap (λ h. h.end) same
end_behind_one at (g ∷ fs) (suc k) f is = end_behind_one g.end fs k f is

stands_up_to : (text : List ℕ) (at : ℕ) (fs : List Found) (xs : List Item) (b : ℕ) → AreFound text at fs xs → b ≤ length fs
    → Stands text at (pieces_of (take b xs)) (end_behind at fs b)
stands_up_to text at fs xs zero h le = refl
stands_up_to text at fs xs (suc b) h le =
    let none : Found = record { kind = Comment; end = 0 } in
    let lt : b < length fs = omega (arith, le) in
    subst (Stands text at (pieces_of (take (suc b) xs))) (sym (end_behind_one at fs b (get_or fs b none) (slice_get-get_or fs b none lt)))
    (behind_one text at fs xs b none lt h).stands

-- items from a place up to another stand between the bytes behind those in front of them
pub stands_between : (text : List ℕ) (at : ℕ) (fs : List Found) (xs : List Item) (a b : ℕ) → AreFound text at fs xs → a ≤ b
    → b ≤ length fs → Stands text (end_behind at fs a) (pieces_of (slice_range xs a b)) (end_behind at fs b)
stands_between text at fs xs zero b h le within =
    let n : b ≡ b - 0 = omega arith in
    subst (λ m. Stands text at (pieces_of (take m xs)) (end_behind at fs b)) n (stands_up_to text at fs xs b h within)
stands_between text at fs xs (suc a) zero h le within = absurd (omega (arith, le))
stands_between text at [] xs (suc a) (suc b) h le within = absurd (omega (arith, within))
stands_between text at (f ∷ fs) [] (suc a) (suc b) h le within = absurd h
stands_between text at (f ∷ fs) (x ∷ xs) (suc a) (suc b) h le within =
    let n : b - a ≡ suc b - suc a = omega arith in
    subst (λ m. Stands text (end_behind f.end fs a) (pieces_of (take m (drop a xs))) (end_behind f.end fs b)) n
    (stands_between text f.end fs xs a b h.4 (omega (arith, le)) (omega (arith, within)))

module _ (text source : List ℕ) (fs : List Found) (xs : List Item) (a b from to : ℕ) (same : text ≡ source) (h : AreFound source 0 fs xs)
    (begins : from ≡ end_behind 0 fs a) (ends : to ≡ end_behind 0 fs b) (le : a ≤ b) (within : b ≤ length fs) where
  pub stands_there : Stands text from (pieces_of (slice_range xs a b)) to
  stands_there =
      let x = pieces_of (slice_range xs a b) in
      subst (λ t. Stands t from x to) (sym same)
      (subst (λ p. Stands source p x to) (sym begins)
      (subst (Stands source (end_behind 0 fs a) x) (sym ends) (stands_between source 0 fs xs a b h le within)))

-- one item alone
pub pieces_of_one : (xs : List Item) (k : ℕ) (x : Item) → slice_get xs k ≡ Some x → pieces_of (slice_range xs k (k + 1)) ≡ x
pieces_of_one xs k x at =
    let n : k + 1 - k ≡ 1 = omega arith in
    ap (λ m. pieces_of (take m (drop k xs))) n ∙ (ap (λ ys. pieces_of (take 1 ys)) (item_here xs k x at) ∙ append-nil x)
