-- What words speak of, and what the proofs need that are asked for: one more turn.
use Rattle.std.proofs.Common.{◌≡◌, ◌<◌, ◌+◌, ℕ, zero, suc, Bool, true, false, List, [], ◌∷◌, ◌++◌, length, map, take, set, get_or}
use Rattle.std.proofs.Common.{refl, sym, ap, subst, ◌∙◌, arith, append_assoc, add-one, Option, Some, None, Bor}
use Rattle.std.specs.Prelude.{◌||◌, ◌&&◌, filter, if◌then◌else◌, slice_get}
use Rattle.std.specs.Option.{option_map}
use mathlib.Core.Bool.{not}
use Rattle.std.specs.Str.{bytes_eq}
use Rattle.std.proofs.Math.Bool.{or_comm, or_assoc}
use Rattle.std.proofs.lemmas.Bool.{cond-true, cond-false}
use Rattle.std.proofs.lemmas.List.{append-nil}
use Rattle.std.proofs.lemmas.List.Folds.{list_any-append}
use Rattle.mmtext.specs.Words.{Word}
use Rattle.source.specs.Scopes.{Assertion, is_in}
use Rattle.source.specs.Views.{seen_words}
use Rattle.taking.specs.Reasons.{needed}
use Rattle.choosing.specs.Choices.{labels_of}
use Rattle.choosing.specs.Marks.{AreMarked, AreMarkedToo}
use Rattle.choosing.specs.Spoken.{needs}
use Rattle.choosing.proofs.Marked.{any_grown, marks_agree}
use Rattle.choosing.proofs.Going.{one_more}

-- ---- words

-- one more word is marked
pub words_more : (xs : List Assertion) (words : List (Bor (List ℕ))) (k : ℕ) (d : Bor (List ℕ)) (marks after : List Bool)
    (test : Word → Bool) → k < length words → AreMarked xs (λ w. is_in (seen_words (take k words)) w || test w) marks
    → ((t : Word → Bool) → AreMarked xs t marks → AreMarked xs (λ v. bytes_eq v (get_or words k d).now || t v) after)
    → AreMarked xs (λ w. is_in (seen_words (take (k + 1) words)) w || test w) after
words_more xs words k d marks after test h are more =
    marks_agree xs (λ v. bytes_eq v (get_or words k d).now || (is_in (seen_words (take k words)) v || test v))
    (λ v. is_in (seen_words (take (k + 1) words)) v || test v) after
    (λ v.
    sym (or_assoc (bytes_eq v (get_or words k d).now) (is_in (seen_words (take k words)) v) (test v))
    ∙ ap (λ b. b || test v)
    (sym (any_grown (bytes_eq v) words k d h) ∙ ap (λ j. is_in (seen_words (take j words)) v) (sym (add-one k))))
    (more (λ v. is_in (seen_words (take k words)) v || test v) are)

-- ---- proofs

-- what one more assertion needs
abbrev pub needed_here : (Word → Bool) → List Assertion → Assertion → List Word
needed_here test earlier x = if test x.label then needed earlier x else []

pub needs_more : (test : Word → Bool) (earlier ys : List Assertion) (x : Assertion)
    → needs test earlier (ys ++ x ∷ []) ≡ needs test earlier ys ++ needed_here test (earlier ++ ys) x
needs_more test earlier [] x =
    append-nil (needed_here test earlier x) ∙ ap (λ zs. needed_here test zs x) (sym (append-nil earlier))
needs_more test earlier (y ∷ ys) x =
    ap (λ ws. needed_here test earlier y ++ ws) (needs_more test (earlier ++ y ∷ []) ys x)
    ∙ sym (append_assoc (needed_here test earlier y) (needs test (earlier ++ y ∷ []) ys) (needed_here test ((earlier ++ y ∷ []) ++ ys) x))
    ∙ ap (λ zs. (needed_here test earlier y ++ needs test (earlier ++ y ∷ []) ys) ++ needed_here test zs x)
    (append_assoc earlier (y ∷ []) ys)

module _ (xs : List Assertion) (k : ℕ) (x : Assertion) (at : slice_get xs k ≡ Some x) (asks test : Word → Bool) where
  grown : needs asks [] (take (k + 1) xs) ≡ needs asks [] (take k xs) ++ needed_here asks (take k xs) x
  grown =
      ap (λ j. needs asks [] (take j xs)) (add-one k)
      ∙ ap (needs asks []) (one_more xs k x at)
      ∙ needs_more asks [] (take k xs) x

  -- its proof is asked for
  pub asked_more : (marks after : List Bool) → asks x.label ≡ true
      → AreMarked xs (λ w. is_in (needs asks [] (take k xs)) w || test w) marks
      → ((t : Word → Bool) → AreMarked xs t marks → AreMarkedToo xs k t after (slice_get xs k))
      → AreMarked xs (λ w. is_in (needs asks [] (take (k + 1) xs)) w || test w) after
  asked_more marks after is are too =
      let old = needs asks [] (take k xs) in
      let new = needed (take k xs) x in
      let made : needs asks [] (take (k + 1) xs) ≡ old ++ new =
      grown ∙ ap (λ ws. old ++ ws) (cond-true (asks x.label) new [] is) in
      marks_agree xs (λ w. is_in new w || (is_in old w || test w)) (λ w. is_in (needs asks [] (take (k + 1) xs)) w || test w) after
      (λ w.
      sym (or_assoc (is_in new w) (is_in old w) (test w))
      ∙ ap (λ b. b || test w)
      (or_comm (is_in new w) (is_in old w) ∙ sym (list_any-append (bytes_eq w) old new) ∙ ap (λ ws. is_in ws w) (sym made)))
      (subst (AreMarkedToo xs k (λ w. is_in old w || test w) after) at (too (λ w. is_in old w || test w) are))

  -- it unasked
  pub unasked_more : (marks : List Bool) → asks x.label ≡ false
      → AreMarked xs (λ w. is_in (needs asks [] (take k xs)) w || test w) marks
      → AreMarked xs (λ w. is_in (needs asks [] (take (k + 1) xs)) w || test w) marks
  unasked_more marks unasked are =
      let old = needs asks [] (take k xs) in
      let made : needs asks [] (take (k + 1) xs) ≡ old =
      grown ∙ ap (λ ws. old ++ ws) (cond-false (asks x.label) (needed (take k xs) x) [] unasked) ∙ append-nil old in
      marks_agree xs (λ w. is_in old w || test w) (λ w. is_in (needs asks [] (take (k + 1) xs)) w || test w) marks
      (λ w. ap (λ ws. is_in ws w || test w) (sym made)) are

-- ---- marks that are taken out

abbrev pub left_out : List Bool → List Bool → List Bool
left_out [] os = []
left_out (m ∷ ms) [] = m ∷ ms
left_out (m ∷ ms) (o ∷ os) = (m && not o) ∷ left_out ms os

pub unmarked_none : (ms : List Bool) → ms ≡ left_out ms []
unmarked_none [] = refl
unmarked_none (m ∷ ms) = refl

and_true : (b : Bool) → b ≡ (b && true)
and_true true = refl
and_true false = refl

and_false : (b : Bool) → false ≡ (b && false)
and_false true = refl
and_false false = refl

pub unmarked_more : (ms os : List Bool) (k : ℕ) → slice_get os k ≡ Some true
    → set (left_out ms (take k os)) k false ≡ left_out ms (take (suc k) os)
unmarked_more [] os k h = refl
unmarked_more (m ∷ ms) [] k h = absurd cc
unmarked_more (m ∷ ms) (o ∷ os) zero h =
    let e : o ≡ true = cc in
    ap (λ b. b ∷ ms) (and_false m ∙ ap (λ b. m && not b) (sym e)) ∙ ap (λ bs. (m && not o) ∷ bs) (unmarked_none ms)
unmarked_more (m ∷ ms) (o ∷ os) (suc k) h = ap (λ bs. (m && not o) ∷ bs) (unmarked_more ms os k h)

pub unmarked_same : (ms os : List Bool) (k : ℕ) → slice_get os k ≡ Some false → left_out ms (take k os) ≡ left_out ms (take (suc k) os)
unmarked_same [] os k h = refl
unmarked_same (m ∷ ms) [] k h = absurd cc
unmarked_same (m ∷ ms) (o ∷ os) zero h =
    let e : o ≡ false = cc in
    ap (λ b. b ∷ ms) (and_true m ∙ ap (λ b. m && not b) (sym e)) ∙ ap (λ bs. (m && not o) ∷ bs) (unmarked_none ms)
unmarked_same (m ∷ ms) (o ∷ os) (suc k) h = ap (λ bs. (m && not o) ∷ bs) (unmarked_same ms os k h)

pub unmarked_by : (xs : List Assertion) (test asks : Word → Bool) (ms os : List Bool) → AreMarked xs test ms → AreMarked xs asks os
    → AreMarked xs (λ w. test w && not (asks w)) (left_out ms os)
unmarked_by xs test asks ms os marked asked =
    both xs ∙ ap (λ bs. left_out bs (map (λ x. asks x.label) xs)) marked ∙ ap (left_out ms) asked
  where
    both : (ys : List Assertion)
        → map (λ (x : Assertion). test x.label && not (asks x.label)) ys
        ≡ left_out (map (λ x. test x.label) ys) (map (λ x. asks x.label) ys)
    both [] = refl
    both (y ∷ ys) = ap (λ bs. (test y.label && not (asks y.label)) ∷ bs) (both ys)

-- ---- labels

module _ (xs : List Assertion) (test : Word → Bool) (k : ℕ) (x : Assertion) (at : slice_get xs k ≡ Some x) where
  grown_labels : labels_of (filter (λ x. test x.label) (take (k + 1) xs))
      ≡ labels_of (filter (λ x. test x.label) (take k xs ++ x ∷ []))
  grown_labels = ap (λ j. labels_of (filter (λ x. test x.label) (take j xs))) (add-one k)
      ∙ ap (λ ys. labels_of (filter (λ x. test x.label) ys)) (one_more xs k x at)

  this : List Word
  this = if test x.label then x.label ∷ [] else []

  one : (b : Bool) → labels_of (if b then x ∷ [] else []) ≡ (if b then x.label ∷ [] else [])
  one true = refl
  one false = refl

  with : (y : Assertion) (ys zs : List Assertion) (ws : List Word) → labels_of ys ≡ labels_of zs ++ ws → (b : Bool)
      → labels_of (if b then y ∷ ys else ys) ≡ labels_of (if b then y ∷ zs else zs) ++ ws
  with y ys zs ws e true = ap (λ vs. y.label ∷ vs) e
  with y ys zs ws e false = e

  behind : (ys : List Assertion)
      → labels_of (filter (λ x. test x.label) (ys ++ x ∷ [])) ≡ labels_of (filter (λ x. test x.label) ys) ++ this
  unfolding this
  behind [] = one (test x.label)
  behind (y ∷ ys) =
      with y (filter (λ x. test x.label) (ys ++ x ∷ [])) (filter (λ x. test x.label) ys) this (behind ys) (test y.label)

  pub label_more : test x.label ≡ true
      → labels_of (filter (λ x. test x.label) (take (k + 1) xs)) ≡ labels_of (filter (λ x. test x.label) (take k xs)) ++ x.label ∷ []
  unfolding this
  label_more is =
      grown_labels ∙ behind (take k xs)
      ∙ ap (λ ws. labels_of (filter (λ x. test x.label) (take k xs)) ++ ws) (cond-true (test x.label) (x.label ∷ []) [] is)

  pub label_same : test x.label ≡ false
      → labels_of (filter (λ x. test x.label) (take (k + 1) xs)) ≡ labels_of (filter (λ x. test x.label) (take k xs))
  unfolding this
  label_same left =
      grown_labels ∙ behind (take k xs)
      ∙ ap (λ ws. labels_of (filter (λ x. test x.label) (take k xs)) ++ ws) (cond-false (test x.label) (x.label ∷ []) [] left)
      ∙ append-nil (labels_of (filter (λ x. test x.label) (take k xs)))

-- ---- marks that are read

marked_here : (xs : List Assertion) (k : ℕ) (test : Word → Bool) (d : Bool) → k < length (map (λ (x : Assertion). test x.label) xs)
    → (x : Assertion) × (slice_get xs k ≡ Some x) × (test x.label ≡ get_or (map (λ x. test x.label) xs) k d)
marked_here [] k test d h = absurd (omega arith)
marked_here (x ∷ xs) zero test d h = (x, refl, refl)
marked_here (x ∷ xs) (suc k) test d h = marked_here xs k test d (omega arith)

-- the assertion at a mark, and what it says of that
pub mark_at : (xs : List Assertion) (k : ℕ) (test : Word → Bool) (marks : List Bool) (b d : Bool) → k < length marks
    → AreMarked xs test marks → get_or marks k d ≡ b → (x : Assertion) × (slice_get xs k ≡ Some x) × (test x.label ≡ b)
mark_at xs k test marks b d h are is =
    let found = marked_here xs k test d (subst (λ (bs : List Bool). k < length bs) (sym are) h) in
    (found.0, found.1, found.2 ∙ ap (λ bs. get_or bs k d) are ∙ is)

-- the mark, as an item of its list
pub item_is : {A : Type 0} (xs : List A) (k : ℕ) (x d : A) → k < length xs → get_or xs k d ≡ x → slice_get xs k ≡ Some x
item_is [] k x d h is = absurd (omega arith)
item_is (y ∷ ys) zero x d h is = ap Some is
item_is (y ∷ ys) (suc k) x d h is = item_is ys k x d (omega arith) is

-- ---- labels that are kept

-- the label at a place is that of the assertion there
pub label_is : (xs : List Assertion) (k : ℕ) (x : Assertion) (found : Option (Bor (List ℕ))) (label : Bor (List ℕ))
    → slice_get xs k ≡ Some x → found ≡ Some label
    → option_map (λ (w : Bor (List ℕ)). w.now) found ≡ option_map (λ (a : Assertion). a.label) (slice_get xs k) → label.now ≡ x.label
label_is xs k x found label at is told =
    let e : Some label.now ≡ Some x.label =
    ap (option_map (λ (w : Bor (List ℕ)). w.now)) (sym is) ∙ told ∙ ap (option_map (λ (a : Assertion). a.label)) at in
    cc

-- there is one
pub label_there : (xs : List Assertion) (k : ℕ) (x : Assertion) (found : Option (Bor (List ℕ))) → slice_get xs k ≡ Some x → found ≡ None
    → option_map (λ (w : Bor (List ℕ)). w.now) found ≡ option_map (λ (a : Assertion). a.label) (slice_get xs k) → ⊥
label_there xs k x found at none told =
    let e : None ≡ Some x.label =
    ap (option_map (λ (w : Bor (List ℕ)). w.now)) (sym none) ∙ told ∙ ap (option_map (λ (a : Assertion). a.label)) at in
    cc

pub or_nothing : (b : Bool) → (b || false) ≡ b
or_nothing true = refl
or_nothing false = refl
