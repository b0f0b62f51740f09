-- The frame of what is taken: its `$f` are those of the mandatory hypotheses, in their order.
use Rattle.std.proofs.Common.{◌≡◌, ℕ, Bool, true, false, List, [], ◌∷◌, length, ◌⊎◌, refl, sym, ap, ◌∙◌, subst, inl, inr, arith}
use mathlib.Core.Path.{ap₂}
use Rattle.std.specs.Prelude.{Some, find, filter, ◌||◌, ◌&&◌, nat_lt, eqb}
use Rattle.std.specs.List.{list_any, AllByRecursion}
use Rattle.std.specs.Str.{bytes_eq}
use Rattle.std.proofs.lemmas.Bool.{cases_Bool, cond-true, cond-false, or_cases, and_parts, eqb-true, lt-ltb, ltb-true, or_left, or_right}
use Rattle.std.proofs.lemmas.Bool.Decides.{eqb_tells}
use Rattle.std.proofs.lemmas.Option.{same_Some, slice_get_within}
use Rattle.mmtext.specs.Words.{Word}
use Rattle.mmsyntax.specs.declared.statement.Symbol.{Symbol}
use Rattle.mmsyntax.specs.declared.statement.Symbol.TheVariants.{Const, Var}
use Rattle.mmsyntax.specs.declared.statement.Assertion.{Assertion as Unit'}
use Rattle.mmsyntax.specs.Tables.{Tables}
use Rattle.mmsyntax.proofs.Names.{bytes_eq-same, same_bytes}
use Rattle.mmsyntax.proofs.Options.{alike}
use Rattle.mmframes.specs.Frames.{is_variable, occurs, frame}
use Rattle.mmframes.specs.Frames as profile
use Rattle.mmframes.proofs.Mandatory.{has, Rises-filter}
use Rattle.source.specs.Scopes.{Hypothesis, typing, premise, Assertion, is_in, is_float_of, stands_in, is_mandatory_variable, is_mandatory}
use Rattle.taking.specs.Names.{Map, float_in, variable_in}
use Rattle.taking.specs.Says.{each, symbol_in, expression_in, premises}
use Rattle.agreement.proofs.Within.{both_parts}
use Rattle.agreement.proofs.Actives.{labels_of_floats}
use Rattle.agreement.proofs.Symbols.{of_variable, at_place, one_word, has_float_at}
use Rattle.agreement.proofs.Symbols as symbols
use Rattle.agreement.proofs.Said.{IsOwn, IsSaid, all_kept}

-- ---- lists

abbrev pub IsAmong : {A : Type 0} → A → List A → Type 0
IsAmong x [] = ⊥
IsAmong x (y ∷ ys) = (y ≡ x) ⊎ IsAmong x ys

pub found_among : {A : Type 0} (test : A → Bool) (xs : List A) (x : A) → find test xs ≡ Some x → IsAmong x xs
found_among test [] x h = absurd cc
found_among test (y ∷ ys) x h =
    elim (cases_Bool (test y)) [
      | inl p ↦ inl (same_Some y x (sym (cond-true (test y) (Some y) (find test ys) p) ∙ h))
      | inr n ↦ inr (found_among test ys x (sym (cond-false (test y) (Some y) (find test ys) n) ∙ h))
    ]

pub among_kept : {A : Type 0} (test : A → Bool) (xs : List A) (x : A) → test x ≡ true → IsAmong x xs → IsAmong x (filter test xs)
among_kept test [] x p h = h
among_kept test (y ∷ ys) x p (inl e) =
    subst (IsAmong x) (sym (cond-true (test y) (y ∷ filter test ys) (filter test ys) (ap test e ∙ p))) (inl e)
among_kept test (y ∷ ys) x p (inr h) =
    elim (cases_Bool (test y)) [
      | inl q ↦ subst (IsAmong x) (sym (cond-true (test y) (y ∷ filter test ys) (filter test ys) q)) (inr (among_kept test ys x p h))
      | inr n ↦ subst (IsAmong x) (sym (cond-false (test y) (y ∷ filter test ys) (filter test ys) n)) (among_kept test ys x p h)
    ]

pub kept_pass : {A : Type 0} (test : A → Bool) (xs : List A) → AllByRecursion (λ x. test x ≡ true) (filter test xs)
kept_pass test [] = tt
kept_pass test (x ∷ xs) =
    elim (cases_Bool (test x)) [
      | inl y ↦
          subst (AllByRecursion (λ x. test x ≡ true)) (sym (cond-true (test x) (x ∷ filter test xs) (filter test xs) y))
          (y, kept_pass test xs)
      | inr n ↦
          subst (AllByRecursion (λ x. test x ≡ true)) (sym (cond-false (test x) (x ∷ filter test xs) (filter test xs) n))
          (kept_pass test xs)
    ]

pub eqb_same : (j : ℕ) → eqb j j ≡ true
eqb_same j = elim (eqb_tells j j) [ inl y ↦ y.0 | inr n ↦ absurd (n.1 refl) ]

or_turned : (a b : Bool) → (a || b) ≡ (b || a)
or_turned true true = refl
or_turned true false = refl
or_turned false true = refl
or_turned false false = refl

-- ---- places of $f

pub record HasFloatAt (m : Map) (P : Hypothesis → Type 0) (j : ℕ) : Type 0 where
  pub label : Word
  pub code : Word
  pub variable : Word
  pub at : float_in m label ≡ Some j
  pub holds : P (typing label code variable)

found_float : (m : Map) (P : Hypothesis → Type 0) (hs : List Hypothesis) (js : List ℕ) (j : ℕ)
    → each (float_in m) (labels_of_floats hs) ≡ Some js → has j js ≡ true → AllByRecursion P hs → HasFloatAt m P j
found_float m P [] js j e h a = absurd (let none : has j js ≡ false = ap (has j) (sym (same_Some [] js e)) in cc)
found_float m P (premise label ws ∷ hs) js j e h a = found_float m P hs js j e h a.1
found_float m P (typing label c v ∷ hs) js j e h a =
    let parts = both_parts (float_in m label) (each (float_in m) (labels_of_floats hs)) js e in
    elim (or_cases (eqb parts.0 j) (has j parts.1) (sym (ap (has j) parts.4) ∙ h)) [
      | inl here ↦
          record {
            label = label;
            code = c;
            variable = v;
            at = parts.2 ∙ ap (λ n. Some n) (eqb-true parts.0 j here);
            holds = a.0;
          }
      | inr later ↦ found_float m P hs parts.1 j parts.3 later a.1
    ]

has_among : (m : Map) (hs : List Hypothesis) (js : List ℕ) (j : ℕ) (label c v : Word)
    → each (float_in m) (labels_of_floats hs) ≡ Some js → float_in m label ≡ Some j → IsAmong (typing label c v) hs → has j js ≡ true
has_among m [] js j label c v e at h = absurd h
has_among m (premise l ws ∷ hs) js j label c v e at (inl same) = absurd cc
has_among m (premise l ws ∷ hs) js j label c v e at (inr h) = has_among m hs js j label c v e at h
has_among m (typing l d u ∷ hs) js j label c v e at (inl same) =
    let parts = both_parts (float_in m l) (each (float_in m) (labels_of_floats hs)) js e in
    let is : l ≡ label = cc in
    let here : parts.0 ≡ j = same_Some parts.0 j (sym parts.2 ∙ ap (float_in m) is ∙ at) in
    ap (has j) parts.4 ∙ or_left (eqb parts.0 j) (has j parts.1) (ap (λ k. eqb k j) here ∙ eqb_same j)
has_among m (typing l d u ∷ hs) js j label c v e at (inr h) =
    let parts = both_parts (float_in m l) (each (float_in m) (labels_of_floats hs)) js e in
    ap (has j) parts.4 ∙ or_right (eqb parts.0 j) (has j parts.1) (has_among m hs parts.1 j label c v parts.3 at h)

module _ (m : Map) (t : Tables) (y : Assertion) (b : Unit') (said : IsSaid m t y b) where
  -- ---- where a variable stands

  same_test : (v w : Word) (j : ℕ) (z : Symbol) → symbol_in m y.active v ≡ Some (Var j) → symbol_in m y.active w ≡ Some z
      → bytes_eq v w ≡ is_variable j z
  same_test v w j (Const i) h k =
      alike (bytes_eq v w) false
      (λ e. absurd
      (let no : Var j ≡ Const i = same_Some (Var j) (Const i) (sym h ∙ ap (symbol_in m y.active) (same_bytes v w e) ∙ k) in cc))
      (λ e. absurd cc)
  same_test v w j (Var i) h k =
      alike (bytes_eq v w) (eqb i j)
      (λ e.
      let same : Var j ≡ Var i = same_Some (Var j) (Var i) (sym h ∙ ap (symbol_in m y.active) (same_bytes v w e) ∙ k) in
      let is : i ≡ j = cc in
      ap (λ n. eqb n j) is ∙ eqb_same j)
      (λ e.
      let is : i ≡ j = eqb-true i j e in
      let one : v ≡ w = one_word m y.active t said.taken v w (Var j) h (k ∙ ap (λ n. Some (Var n)) is) in
      ap (bytes_eq v) (sym one) ∙ bytes_eq-same v)

  pub same_occurs : (v : Word) (j : ℕ) (ws : List Word) (zs : List Symbol) → symbol_in m y.active v ≡ Some (Var j)
      → expression_in m y.active ws ≡ Some zs → is_in ws v ≡ occurs j zs
  unfolding occurs
  same_occurs v j [] zs h e = ap (list_any (is_variable j)) (same_Some [] zs e)
  same_occurs v j (w ∷ ws) zs h e =
      let parts = both_parts (symbol_in m y.active w) (expression_in m y.active ws) zs e in
      ap₂ (λ p q. p || q) (same_test v w j parts.0 h parts.2) (same_occurs v j ws parts.1 h parts.3)
      ∙ ap (list_any (is_variable j)) (sym parts.4)

  premises_occur : (v : Word) (j : ℕ) (hs : List Hypothesis) (es : List (List Symbol)) → symbol_in m y.active v ≡ Some (Var j)
      → each (expression_in m y.active) (premises hs) ≡ Some es → list_any (stands_in v) hs ≡ list_any (occurs j) es
  premises_occur v j [] es h e = ap (list_any (occurs j)) (same_Some [] es e)
  premises_occur v j (typing label c u ∷ hs) es h e = premises_occur v j hs es h e
  premises_occur v j (premise label ws ∷ hs) es h e =
      let parts = both_parts (expression_in m y.active ws) (each (expression_in m y.active) (premises hs)) es e in
      ap₂ (λ p q. p || q) (same_occurs v j ws parts.0 h parts.2) (premises_occur v j hs parts.1 h parts.3)
      ∙ ap (list_any (occurs j)) (sym parts.4)

  -- a variable is mandatory in the source just where its $f is in the library
  pub mandatory_same : (v : Word) (j : ℕ) → symbol_in m y.active v ≡ Some (Var j)
      → profile.is_mandatory t b j ≡ is_mandatory_variable y.active y.statement v
  mandatory_same v j h =
      let there = at_place m y.active t said.taken v j (symbols.is_variable m y.active v j h).1 in
      ap (λ p. p && (list_any (occurs j) b.hyps || occurs j b.statement))
      (lt-ltb j (length t.floats) (slice_get_within t.floats j there.float there.there))
      ∙ or_turned (list_any (occurs j) b.hyps) (occurs j b.statement)
      ∙ sym (ap₂ (λ p q. p || q) (same_occurs v j y.statement b.statement h said.says.statement)
      (premises_occur v j y.active b.hyps h said.says.hyps))

  -- ---- the mandatory $f

  -- what is so of each mandatory hypothesis
  abbrev pub IsKept : Hypothesis → Type 0
  IsKept h = IsOwn y.active h × (is_mandatory y.active y.statement h ≡ true)

  both_kept : (hs : List Hypothesis) → AllByRecursion (IsOwn y.active) hs
      → AllByRecursion (λ h. is_mandatory y.active y.statement h ≡ true) hs → AllByRecursion IsKept hs
  both_kept [] a p = tt
  both_kept (h ∷ hs) a p = ((a.0, p.0), both_kept hs a.1 p.1)

  pub hypotheses_kept : AllByRecursion IsKept y.hypotheses
  hypotheses_kept =
      let test = is_mandatory y.active y.statement in
      subst (AllByRecursion IsKept) said.mandatory
      (both_kept (filter test y.active) (all_kept (IsOwn y.active) test y.active said.own) (kept_pass test y.active))

  -- the variable of an active $f is the symbol of its place
  pub own_symbol : (label c v : Word) (j : ℕ) → IsOwn y.active (typing label c v) → float_in m label ≡ Some j
      → symbol_in m y.active v ≡ Some (Var j)
  own_symbol label c v j own at =
      let is : variable_in m y.active v ≡ Some j = ap (symbols.place_of_found m) own ∙ at in
      of_variable m y.active v j (said.apart v (symbols.variable_active m y.active v j is)) is

  is_there : (j : ℕ) → has j said.places.are ≡ true → profile.is_mandatory t b j ≡ true
  is_there j h =
      let f = found_float m IsKept y.hypotheses said.places.are j said.places.places h hypotheses_kept in
      mandatory_same f.variable j (own_symbol f.label f.code f.variable j f.holds.0 f.at) ∙ f.holds.1

  record Occurs (j : ℕ) : Type 0 where
    word : Word
    symbol : symbol_in m y.active word ≡ Some (Var j)

  occurring : (j : ℕ) (ws : List Word) (zs : List Symbol) → expression_in m y.active ws ≡ Some zs → occurs j zs ≡ true → Occurs j
  unfolding occurs
  occurring j [] zs e h =
      absurd (let no : list_any (is_variable j) zs ≡ false = ap (list_any (is_variable j)) (sym (same_Some [] zs e)) in cc)
  occurring j (w ∷ ws) zs e h =
      let parts = both_parts (symbol_in m y.active w) (expression_in m y.active ws) zs e in
      elim (or_cases (is_variable j parts.0) (list_any (is_variable j) parts.1) (sym (ap (list_any (is_variable j)) parts.4) ∙ h)) [
        | inl here ↦ record { word = w; symbol = parts.2 ∙ ap (λ z. Some z) (is_var j parts.0 here) }
        | inr later ↦ occurring j ws parts.1 parts.3 later
      ]
    where
      is_var : (j : ℕ) (z : Symbol) → is_variable j z ≡ true → z ≡ Var j
      is_var j (Const c) e = absurd cc
      is_var j (Var k) e = ap Var (eqb-true k j e)

  occurring_before : (j : ℕ) (hs : List Hypothesis) (es : List (List Symbol)) → each (expression_in m y.active) (premises hs) ≡ Some es
      → list_any (occurs j) es ≡ true → Occurs j
  occurring_before j [] es e h =
      absurd (let no : list_any (occurs j) es ≡ false = ap (list_any (occurs j)) (sym (same_Some [] es e)) in cc)
  occurring_before j (typing label c u ∷ hs) es e h = occurring_before j hs es e h
  occurring_before j (premise label ws ∷ hs) es e h =
      let parts = both_parts (expression_in m y.active ws) (each (expression_in m y.active) (premises hs)) es e in
      elim (or_cases (occurs j parts.0) (list_any (occurs j) parts.1) (sym (ap (list_any (occurs j)) parts.4) ∙ h)) [
        | inl here ↦ occurring j ws parts.0 parts.2 here
        | inr later ↦ occurring_before j hs parts.1 parts.3 later
      ]

  is_kept : (j : ℕ) → profile.is_mandatory t b j ≡ true → has j said.places.are ≡ true
  is_kept j h =
      let both = and_parts (nat_lt j (length t.floats)) (list_any (occurs j) b.hyps || occurs j b.statement) h in
      let o : Occurs j = elim (or_cases (list_any (occurs j) b.hyps) (occurs j b.statement) both.1) [
        | inl before ↦ occurring_before j y.active b.hyps said.says.hyps before
        | inr here ↦ occurring j y.statement b.statement said.says.statement here
      ] in
      let f = has_float_at m y.active o.word j (symbols.is_variable m y.active o.word j o.symbol).1 in
      let kept = among_kept (is_mandatory y.active y.statement) y.active (typing f.label f.code o.word)
      (sym (mandatory_same o.word j o.symbol) ∙ h) (found_among (is_float_of o.word) y.active (typing f.label f.code o.word) f.found) in
      has_among m y.hypotheses said.places.are j f.label f.code o.word said.places.places f.at
      (subst (IsAmong (typing f.label f.code o.word)) said.mandatory kept)

  pub floats_are : (frame t b).floats ≡ said.places.are
  floats_are =
      sym (Rises-filter (profile.is_mandatory t b) 0 (length t.floats) said.places.are said.places.rise
      (λ j le. alike (has j said.places.are) (profile.is_mandatory t b j) (is_there j) (is_kept j))
      (λ j h.
      let lt = ltb-true j (length t.floats)
      (and_parts (nat_lt j (length t.floats)) (list_any (occurs j) b.hyps || occurs j b.statement) h).0 in
      omega (arith, lt)))
