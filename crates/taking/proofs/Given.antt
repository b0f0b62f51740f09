-- Names that are given, one after the other.
use Rattle.std.proofs.Common.{◌≡◌, ◌≢◌, ◌<◌, ℕ, zero, suc, ◌+◌, Bool, true, false, List, [], ◌∷◌, ◌++◌, length, map, take, get_or}
use Rattle.std.proofs.Common.{refl, sym, ap, subst, ◌∙◌, arith, inl, inr}
use Rattle.std.specs.Prelude.{Some, None, find, if◌then◌else◌, ◌&&◌, ◌||◌, IsTrue}
use mathlib.Core.Bool.{not}
use Rattle.std.specs.List.{range_with_len}
use Rattle.std.specs.Str.{bytes_eq}
use Rattle.std.proofs.lemmas.Bool.{cases_lt, cases_Bool, and_parts, cond-true, cond-false}
use Rattle.std.proofs.lemmas.List.{get_or_append_left, get_or-take, length_push, length-take-le}
use Rattle.std.proofs.lemmas.List.Folds.{list_any_at, list_any-append}
use Rattle.std.proofs.Math.Seq.{get_or-append_seam}
use Rattle.mmtext.specs.Words.{Word}
use Rattle.mmsyntax.proofs.Names.{bytes_eq-same}
use Rattle.source.specs.Scopes.{is_in}
use Rattle.taking.specs.Fresh.{candidate, fresh, renamed_by, is_named_by, AreGiven, AreLeft, IsRefused}

-- ---- a fresh name is free

finds : {A : Type 0} (test : A → Bool) (xs : List A) (x : A) → find test xs ≡ Some x → test x ≡ true
finds test [] x h = absurd cc
finds {A} test (y ∷ ys) x h =
    let go : (b : Bool) → test y ≡ b → (if b then Some y else find test ys) ≡ Some x → test x ≡ true =
    λ b. elim b as (λ b. test y ≡ b → (if b then Some y else find test ys) ≡ Some x → test x ≡ true) [
      | true ↦ λ p q. let e : y ≡ x = cc in subst (λ (z : A). test z ≡ true) e p
      | false ↦ λ p q. finds test ys x q
    ] in
    go (test y) refl h

pub fresh_free : (is_free : Word → Bool) (w name : Word) → fresh is_free w ≡ Some name → is_free name ≡ true
unfolding fresh
fresh_free is_free w name h = finds is_free (map (candidate w) (range_with_len 0 1000)) name h

-- where there is none, no candidate is free
none_passes : {A : Type 0} (test : A → Bool) (f : ℕ → A) (a n : ℕ) → find test (map f (range_with_len a n)) ≡ None → (k : ℕ) → k < n
    → test (f (a + k)) ≡ false
none_passes test f a zero h k lt = absurd (omega arith)
none_passes test f a (suc m) h zero lt =
    let none : test (f a) ≡ false = elim (cases_Bool (test (f a))) [
      | inl y ↦ absurd (let e = sym (cond-true (test (f a)) (Some (f a)) (find test (map f (range_with_len (a + 1) m))) y) ∙ h in cc)
      | inr n ↦ n
    ] in
    let same : a + 0 ≡ a = omega arith in
    ap (λ j. test (f j)) same ∙ none
none_passes test f a (suc m) h (suc k) lt =
    let rest = find test (map f (range_with_len (a + 1) m)) in
    let behind : rest ≡ None = elim (cases_Bool (test (f a))) [
      | inl y ↦ absurd (let e = sym (cond-true (test (f a)) (Some (f a)) rest y) ∙ h in cc)
      | inr n ↦ sym (cond-false (test (f a)) (Some (f a)) rest n) ∙ h
    ] in
    let same : a + suc k ≡ a + 1 + k = omega arith in
    ap (λ j. test (f j)) same ∙ none_passes test f (a + 1) m behind k (omega arith)

pub none_free : (is_free : Word → Bool) (w : Word) → fresh is_free w ≡ None → (k : ℕ) → k < 1000 → is_free (candidate w k) ≡ false
unfolding fresh
none_free is_free w h k lt =
    let same : 0 + k ≡ k = omega arith in
    ap (λ j. is_free (candidate w j)) (sym same) ∙ none_passes is_free (candidate w) 0 1000 h k lt

-- ---- beside names

-- what is left is free, and none of the names
pub left_free : (free now : Word → Bool) (names : List Word) → AreLeft free now names → (w : Word) → now w ≡ true → free w ≡ true
left_free free now names left w h = (and_parts (free w) (not (is_in names w)) (sym (left w) ∙ h)).0

not_both : (b : Bool) → not b ≡ true → b ≡ true → ⊥
not_both true h g = cc
not_both false h g = cc

left_others : (free now : Word → Bool) (names : List Word) → AreLeft free now names → (w : Word) (k : ℕ) → k < length names
    → now w ≡ true → w ≢ get_or names k []
left_others free now names left w k lt h e =
    not_both (is_in names w) (and_parts (free w) (not (is_in names w)) (sym (left w) ∙ h)).1
    (list_any_at (bytes_eq w) names k [] lt (ap (bytes_eq w) (sym e) ∙ bytes_eq-same w))

beside_none : (b : Bool) → (b && not false) ≡ b
beside_none true = refl
beside_none false = refl

one_less : (f a b : Bool) → ((f && not a) && not b) ≡ (f && not (a || (b || false)))
one_less true true b = refl
one_less true false true = refl
one_less true false false = refl
one_less false a b = refl

-- one more name
left_more : (free now later : Word → Bool) (names : List Word) (name : Word) → AreLeft free now names
    → ((w : Word) → later w ≡ (now w && not (bytes_eq w name))) → AreLeft free later (names ++ name ∷ [])
left_more free now later names name left noted w =
    noted w
    ∙ ap (λ b. b && not (bytes_eq w name)) (left w)
    ∙ one_less (free w) (is_in names w) (bytes_eq w name)
    ∙ ap (λ b. free w && not b) (sym (list_any-append (bytes_eq w) names (name ∷ [])))

-- ---- so far

pub record Given (free now : Word → Bool) (changes : List Bool) (words : List Word) (i : ℕ) (names : List Word) : Type 0 where
  pub as_many : length names ≡ i
  pub named : (k : ℕ) → k < i → IsTrue (is_named_by free (get_or changes k false) (get_or words k []) (get_or names k []))
  pub apart : (j k : ℕ) → j < k → k < i → get_or changes k false ≡ true → get_or names j [] ≢ get_or names k []
  pub left : AreLeft free now names

-- none yet
pub none_given : (free : Word → Bool) (changes : List Bool) (words names : List Word) → names ≡ [] → Given free free changes words 0 names
none_given free changes words names none =
    let many : length names ≡ 0 = ap length none in
    record {
      as_many = many;
      named = λ k h. absurd (omega arith);
      apart = λ j k lt h ch. absurd (omega arith);
      left = λ w. sym (beside_none (free w)) ∙ ap (λ ns. free w && not (is_in ns w)) (sym none);
    }

-- all of them
pub all_given : (free now : Word → Bool) (changes : List Bool) (words : List Word) (i : ℕ) (names : List Word)
    → Given free now changes words i names → i ≡ length words → AreGiven free changes words names
all_given free now changes words i names given all = record {
  as_many = given.as_many ∙ all;
  named = λ k h. given.named k (omega arith);
  apart = λ j k lt h ch. given.apart j k lt (omega arith) ch;
}

-- ---- a word without a name

no_name : (free : Word → Bool) (changes : Bool) (w : Word) → renamed_by free changes w ≡ None → (changes ≡ true) × (fresh free w ≡ None)
no_name free true w h = (refl, h)
no_name free false w h = absurd cc

pub refused : (free now : Word → Bool) (changes : List Bool) (words : List Word) (i : ℕ) (names : List Word)
    → Given free now changes words i names → i < length words → renamed_by now (get_or changes i false) (get_or words i []) ≡ None
    → IsRefused free changes words (get_or words i [])
refused free now changes words i names given within none =
    let why = no_name now (get_or changes i false) (get_or words i []) none in
    let many : length (take i words) ≡ i = length-take-le i words (omega arith) in
    record {
      place = i;
      within = within;
      stands_there = refl;
      changing = why.0;
      names = names;
      given = record {
        as_many = given.as_many ∙ sym many;
        named = λ k h.
            subst (λ (w : Word). IsTrue (is_named_by free (get_or changes k false) w (get_or names k [])))
            (sym (get_or-take i words k [] (omega arith))) (given.named k (omega arith));
        apart = λ j k lt h ch. given.apart j k lt (omega arith) ch;
      };
      none_free = λ k lt. sym (given.left (candidate (get_or words i []) k)) ∙ none_free now (get_or words i []) why.1 k lt;
    }

-- ---- one more

module _ (free now later : Word → Bool) (changes : List Bool) (words : List Word) (i : ℕ) (names : List Word) (name : Word)
    (given : Given free now changes words i names) (is : renamed_by now (get_or changes i false) (get_or words i []) ≡ Some name)
    (noted : (w : Word) → later w ≡ (now w && not (bytes_eq w name))) where
  before : (k : ℕ) → k < i → get_or (names ++ name ∷ []) k [] ≡ get_or names k []
  before k h = let many = given.as_many in get_or_append_left names (name ∷ []) [] k (omega arith)

  last : get_or (names ++ name ∷ []) i [] ≡ name
  last = ap (λ n. get_or (names ++ name ∷ []) n []) (sym given.as_many) ∙ get_or-append_seam names name [] []

  -- a name that changes was free
  new_free : get_or changes i false ≡ true → now name ≡ true
  new_free ch =
      fresh_free now (get_or words i []) name (ap (λ b. renamed_by now b (get_or words i [])) (sym ch) ∙ is)

  named_by : (b : Bool) → get_or changes i false ≡ b → IsTrue (is_named_by free b (get_or words i []) name)
  named_by true ch = left_free free now names given.left name (new_free ch)
  named_by false ch =
      let kept : Some (get_or words i []) ≡ Some name = ap (λ b. renamed_by now b (get_or words i [])) (sym ch) ∙ is in
      let same : get_or words i [] ≡ name = cc in
      ap (λ w. bytes_eq w name) same ∙ bytes_eq-same name

  named_at : (k : ℕ) → k < i + 1
      → IsTrue (is_named_by free (get_or changes k false) (get_or words k []) (get_or (names ++ name ∷ []) k []))
  named_at k h =
      elim (cases_lt k i) [
        | inl lt ↦
            subst (λ (n : Word). IsTrue (is_named_by free (get_or changes k false) (get_or words k []) n)) (sym (before k lt))
            (given.named k lt)
        | inr ge ↦
            let e : i ≡ k = omega arith in
            subst (λ (m : ℕ). IsTrue (is_named_by free (get_or changes m false) (get_or words m []) (get_or (names ++ name ∷ []) m []))) e
            (subst (λ (n : Word). IsTrue (is_named_by free (get_or changes i false) (get_or words i []) n)) (sym last)
            (named_by (get_or changes i false) refl))
      ]

  apart_at : (j k : ℕ) → j < k → k < i + 1 → get_or changes k false ≡ true
      → get_or (names ++ name ∷ []) j [] ≢ get_or (names ++ name ∷ []) k []
  apart_at j k lt h ch =
      elim (cases_lt k i) [
        | inl in' ↦ λ e. given.apart j k lt in' ch (sym (before j (omega arith)) ∙ e ∙ before k in')
        | inr ge ↦
            let same : k ≡ i = omega arith in
            let ch' : get_or changes i false ≡ true = ap (λ n. get_or changes n false) (sym same) ∙ ch in
            let many = given.as_many in
            λ e.
            left_others free now names given.left name j (omega arith) (new_free ch')
            (sym last ∙ ap (λ n. get_or (names ++ name ∷ []) n []) (sym same) ∙ sym e ∙ before j (omega arith))
      ]

  pub give : Given free later changes words (i + 1) (names ++ name ∷ [])
  give = record {
    as_many = let many = given.as_many in let more = length_push names name in omega arith;
    named = named_at;
    apart = apart_at;
    left = left_more free now later names name given.left noted;
  }
