-- Which symbol of the library a word is, by a map of names: no two words are one symbol.
use Rattle.std.proofs.Common.{◌≡◌, ℕ, Bool, true, List, [], ◌∷◌, ◌++◌, drop, refl, sym, ap, ◌∙◌, subst, inl, inr}
use mathlib.Core.Path.{ap₂}
use Rattle.std.specs.Prelude.{Option, Some, None, find, slice_get}
use Rattle.std.specs.Option.{option_and_then}
use Rattle.std.specs.List.{list_any, AllByRecursion}
use Rattle.std.proofs.lemmas.Bool.{cases_Bool, cond-true, cond-false}
use Rattle.std.proofs.lemmas.Option.{same_Some}
use Rattle.mmtext.specs.Words.{Word}
use Rattle.mmsyntax.specs.declared.statement.Symbol.{Symbol}
use Rattle.mmsyntax.specs.declared.statement.Symbol.TheVariants.{Const, Var}
use Rattle.mmsyntax.specs.declared.statement.Float.{Float}
use Rattle.mmsyntax.specs.Tables.{Tables}
use Rattle.mmsyntax.proofs.Names.{same_bytes, same_place}
use Rattle.mmsyntax.proofs.Items.{found_is_any}
use Rattle.source.specs.Scopes.{Hypothesis, typing, premise, label_of, is_float_of}
use Rattle.taking.specs.Names.{Map, constant_in, float_in, variable_in}
use Rattle.taking.specs.Says.{both, each, symbol_at, symbol_in, expression_in, IsFloatTaken}
use Rattle.agreement.proofs.Within.{both_parts}

-- ---- what is found

pub of_found : {A : Type 0} (P : A → Type 0) (test : A → Bool) (xs : List A) (x : A) → AllByRecursion P xs → find test xs ≡ Some x
    → P x × (test x ≡ true)
of_found P test [] x a h = absurd cc
of_found P test (y ∷ ys) x a h =
    elim (cases_Bool (test y)) [
      | inl p ↦
          let same : y ≡ x = same_Some y x (sym (cond-true (test y) (Some y) (find test ys) p) ∙ h) in
          (subst P same a.0, ap test (sym same) ∙ p)
      | inr n ↦ of_found P test ys x a.1 (sym (cond-false (test y) (Some y) (find test ys) n) ∙ h)
    ]

pub found_passes : {A : Type 0} (test : A → Bool) (xs : List A) (x : A) → find test xs ≡ Some x → test x ≡ true
found_passes {A} test xs x h = (of_found (λ y. Unit {0}) test xs x (all_there xs) h).1
  where
    all_there : (ys : List A) → AllByRecursion (λ y. Unit {0}) ys
    all_there [] = tt
    all_there (y ∷ ys) = (tt, all_there ys)

-- ---- values one after the other

pub each_append : {A B : Type 0} (f : A → Option B) (xs ys : List A) (as' bs : List B) → each f xs ≡ Some as' → each f ys ≡ Some bs
    → each f (xs ++ ys) ≡ Some (as' ++ bs)
each_append f [] ys as' bs h k = k ∙ ap (λ l. Some (l ++ bs)) (same_Some [] as' h)
each_append f (x ∷ xs) ys as' bs h k =
    let parts = both_parts (f x) (each f xs) as' h in
    ap₂ both parts.2 (each_append f xs ys parts.1 bs parts.3 k) ∙ ap (λ l. Some (l ++ bs)) (sym parts.4)

pub each_drop : {A B : Type 0} (f : A → Option B) (xs : List A) (as' : List B) → each f xs ≡ Some as'
    → each f (drop 1 xs) ≡ Some (drop 1 as')
each_drop f [] as' h = ap (λ l. Some (drop 1 l)) (same_Some [] as' h)
each_drop f (x ∷ xs) as' h =
    let parts = both_parts (f x) (each f xs) as' h in
    parts.3 ∙ ap (λ l. Some (drop 1 l)) (sym parts.4)

-- ---- one symbol

const_is : (o v : Option ℕ) (i : ℕ) → symbol_at o v ≡ Some (Const i) → o ≡ Some i
const_is (Some k) v i h = let e : Const k ≡ Const i = same_Some (Const k) (Const i) h in ap (λ n. Some n) (let f : k ≡ i = cc in f)
const_is None (Some k) i h = let e : Var k ≡ Const i = same_Some (Var k) (Const i) h in absurd cc
const_is None None i h = absurd cc

var_is : (o v : Option ℕ) (j : ℕ) → symbol_at o v ≡ Some (Var j) → (o ≡ None) × (v ≡ Some j)
var_is (Some k) v j h = let e : Const k ≡ Var j = same_Some (Const k) (Var j) h in absurd cc
var_is None (Some k) j h =
    let e : Var k ≡ Var j = same_Some (Var k) (Var j) h in (refl, ap (λ n. Some n) (let f : k ≡ j = cc in f))
var_is None None j h = absurd cc

float_word : (w : Word) (h : Hypothesis) → is_float_of w h ≡ true → (label c : Word) × (h ≡ typing label c w)
float_word w (typing label c v) e = (label, c, ap (λ u. typing label c u) (sym (same_bytes w v e)))
float_word w (premise label ws) e = absurd cc

-- the place of a hypothesis that was found
abbrev pub place_of_found : Map → Option Hypothesis → Option ℕ
place_of_found m o = option_and_then (λ h. float_in m (label_of h)) o

module _ (m : Map) (active : List Hypothesis) where
  pub of_constant : (w : Word) (i : ℕ) → constant_in m w ≡ Some i → symbol_in m active w ≡ Some (Const i)
  of_constant w i h = ap (λ o. symbol_at o (variable_in m active w)) h

  pub of_variable : (w : Word) (j : ℕ) → constant_in m w ≡ None → variable_in m active w ≡ Some j → symbol_in m active w ≡ Some (Var j)
  of_variable w j h k = ap₂ symbol_at h k

  pub is_constant : (w : Word) (i : ℕ) → symbol_in m active w ≡ Some (Const i) → constant_in m w ≡ Some i
  is_constant w i h = const_is (constant_in m w) (variable_in m active w) i h

  pub is_variable : (w : Word) (j : ℕ) → symbol_in m active w ≡ Some (Var j)
      → (constant_in m w ≡ None) × (variable_in m active w ≡ Some j)
  is_variable w j h = var_is (constant_in m w) (variable_in m active w) j h

  -- the $f of a variable
  pub record HasFloat (w : Word) (j : ℕ) : Type 0 where
    pub label : Word
    pub code : Word
    pub found : find (is_float_of w) active ≡ Some (typing label code w)
    pub at : float_in m label ≡ Some j

  float_found : (w : Word) (j : ℕ) (o : Option Hypothesis) → find (is_float_of w) active ≡ o
      → option_and_then (λ h. float_in m (label_of h)) o ≡ Some j → HasFloat w j
  float_found w j None e h = absurd cc
  float_found w j (Some k) e h =
      let is = float_word w k (found_passes (is_float_of w) active k e) in
      record { label = is.0; code = is.1; found = e ∙ ap (λ g. Some g) is.2; at = ap (λ g. float_in m (label_of g)) (sym is.2) ∙ h }

  pub has_float_at : (w : Word) (j : ℕ) → variable_in m active w ≡ Some j → HasFloat w j
  has_float_at w j h = float_found w j (find (is_float_of w) active) refl h

  pub variable_active : (w : Word) (j : ℕ) → variable_in m active w ≡ Some j → list_any (is_float_of w) active ≡ true
  variable_active w j h = let f = has_float_at w j h in found_is_any (is_float_of w) active (typing f.label f.code w) f.found

  -- ---- where each $f is taken

  module _ (t : Tables) (taken : AllByRecursion (IsFloatTaken m t) active) where
    -- what stands at the place of a variable
    pub record IsAtPlace (w : Word) (j : ℕ) : Type 0 where
      pub float : Float
      pub there : slice_get t.floats j ≡ Some float
      pub named : slice_get m.variables j ≡ Some w

    pub at_place : (w : Word) (j : ℕ) → variable_in m active w ≡ Some j → IsAtPlace w j
    at_place w j h =
        let f = has_float_at w j h in
        let is = (of_found (IsFloatTaken m t) (is_float_of w) active (typing f.label f.code w) taken f.found).0 in
        let same : is.0 ≡ j = same_Some is.0 j (sym is.2 ∙ f.at) in
        record {
          float = is.1;
          there = ap (slice_get t.floats) (sym same) ∙ is.3;
          named = ap (slice_get m.variables) (sym same) ∙ is.5;
        }

    pub one_variable : (v w : Word) (j : ℕ) → variable_in m active v ≡ Some j → variable_in m active w ≡ Some j → v ≡ w
    one_variable v w j h k = same_Some v w (sym (at_place v j h).named ∙ (at_place w j k).named)

    -- one symbol is one word
    pub one_word : (v w : Word) (z : Symbol) → symbol_in m active v ≡ Some z → symbol_in m active w ≡ Some z → v ≡ w
    one_word v w (Const i) h k = same_place v w m.constants i (is_constant v i h) (is_constant w i k)
    one_word v w (Var j) h k = one_variable v w j (is_variable v j h).1 (is_variable w j k).1

    pub one_expression : (d e : List Word) (zs : List Symbol) → expression_in m active d ≡ Some zs
        → expression_in m active e ≡ Some zs → d ≡ e
    one_expression [] [] zs h k = refl
    one_expression [] (w ∷ e) zs h k =
        let parts = both_parts (symbol_in m active w) (expression_in m active e) zs k in
        absurd (let no : [] ≡ parts.0 ∷ parts.1 = same_Some [] zs h ∙ parts.4 in cc)
    one_expression (v ∷ d) [] zs h k =
        let parts = both_parts (symbol_in m active v) (expression_in m active d) zs h in
        absurd (let no : [] ≡ parts.0 ∷ parts.1 = same_Some [] zs k ∙ parts.4 in cc)
    one_expression (v ∷ d) (w ∷ e) zs h k =
        let p = both_parts (symbol_in m active v) (expression_in m active d) zs h in
        let q = both_parts (symbol_in m active w) (expression_in m active e) zs k in
        let same : p.0 ∷ p.1 ≡ q.0 ∷ q.1 = sym p.4 ∙ q.4 in
        let heads : p.0 ≡ q.0 = cc in
        let tails : p.1 ≡ q.1 = cc in
        ap₂ (λ (w : Word) (e : List Word). w ∷ e) (one_word v w p.0 p.2 (q.2 ∙ ap (λ z. Some z) (sym heads)))
        (one_expression d e p.1 p.3 (q.3 ∙ ap (λ z. Some z) (sym tails)))
