-- What the map of names knows after one more declaration.
use Rattle.std.proofs.Common.{◌≡◌, ℕ, Bool, true, false, cond, List, [], ◌∷◌, ◌++◌, length, take, Option, Some, None}
use Rattle.std.proofs.Common.{refl, sym, ap, ◌∙◌, subst, inl, inr}
use Rattle.std.specs.Prelude.{◌||◌}
use Rattle.std.specs.List.{list_any}
use Rattle.std.specs.Str.{bytes_eq}
use Rattle.std.proofs.Math.Bool.{or-true, or-false}
use Rattle.std.proofs.lemmas.Bool.{cases_Bool, cond-true, cond-false}
use Rattle.std.proofs.lemmas.List.Folds.{list_any-append}
use Rattle.mmtext.specs.Words.{Word}
use Rattle.mmsyntax.proofs.Names.{bytes_eq-same, bytes_eq-sym, same_bytes}
use Rattle.source.specs.Scopes.{Hypothesis, typing, premise, label_of, Assertion, Scope, is_in, is_float_of}
use Rattle.scopes.specs.declared.tables.Name.{Name}
use Rattle.scopes.specs.declared.tables.Name.TheVariants as name
use Rattle.scopes.specs.Found.{Found}
use Rattle.scopes.specs.Sound.{KnowsWord, is_symbol, is_label_name, variable_place, float_place, hypothesis_place, assertion_place}
use Rattle.scopes.proofs.Found.{found_push, found_here, found_any, found_take}

-- ---- words

push_in : (w x : Word) (xs : List Word) → is_in (xs ++ x ∷ []) w ≡ (is_in xs w || bytes_eq w x)
push_in w x xs = list_any-append (bytes_eq w) xs (x ∷ []) ∙ ap (λ b. is_in xs w || b) (or-false (bytes_eq w x))

push_here : (w : Word) (xs : List Word) → is_in (xs ++ w ∷ []) w ≡ true
push_here w xs = push_in w w xs ∙ ap (λ b. is_in xs w || b) (bytes_eq-same w) ∙ or-true (is_in xs w)

push_other : (w x : Word) (xs : List Word) (b : Bool) → bytes_eq w x ≡ false → is_in xs w ≡ b → is_in (xs ++ x ∷ []) w ≡ b
push_other w x xs b differ h = push_in w x xs ∙ ap (λ t. is_in xs w || t) differ ∙ or-false (is_in xs w) ∙ h

-- what holds of a new word with its name, and of every other word with its own, holds of all
module _ (P : Word → Option Name → Type 0) (c : Word) (new : Name) (look : Word → Option Name) where
  with_name : P c (Some new) → ((w : Word) → bytes_eq w c ≡ false → P w (look w)) → (w : Word)
      → P w (cond (bytes_eq c w) (Some new) (look w))
  with_name here other w =
      elim (cases_Bool (bytes_eq c w)) [
        | inl y ↦ subst (λ o. P w o) (sym (cond-true (bytes_eq c w) (Some new) (look w) y))
            (subst (λ x. P x (Some new)) (same_bytes c w y) here)
        | inr n ↦ subst (λ o. P w o) (sym (cond-false (bytes_eq c w) (Some new) (look w) n)) (other w (bytes_eq-sym w c ∙ n))
      ]

-- ---- names

no_name : (o : Option Name) → is_label_name o ≡ false → is_symbol o ≡ false → o ≡ None
no_name None l m = refl
no_name (Some name.Constant) l m = absurd cc
no_name (Some (name.Variable i f)) l m = absurd cc
no_name (Some (name.Hypothesis i)) l m = absurd cc
no_name (Some (name.Assertion i)) l m = absurd cc

no_label : (o : Option Name) → is_label_name o ≡ false → (hypothesis_place o ≡ None) × (assertion_place o ≡ None)
no_label None l = (refl, refl)
no_label (Some name.Constant) l = (refl, refl)
no_label (Some (name.Variable i f)) l = (refl, refl)
no_label (Some (name.Hypothesis i)) l = absurd cc
no_label (Some (name.Assertion i)) l = absurd cc

-- a word that is neither a label nor a symbol has no name
pub unknown : (s : Scope) (c : Word) (o : Option Name) → KnowsWord s c o → is_in s.labels c ≡ false → is_in s.symbols c ≡ false
    → KnowsWord s c None
unknown s c o k l m = subst (λ o. KnowsWord s c o) (no_name o (sym k.label ∙ l) (sym k.symbol ∙ m)) k

-- ---- one more constant or variable

pub knows_constant : (s : Scope) (c : Word) (look : Word → Option Name) → ((w : Word) → KnowsWord s w (look w))
    → is_in s.labels c ≡ false → is_in s.symbols c ≡ false
    → (w : Word) → KnowsWord (record s { constants = s.constants ++ c ∷ []; symbols = s.symbols ++ c ∷ [] }) w
    (cond (bytes_eq c w) (Some name.Constant) (look w))
knows_constant s c look known l m =
    let t : Scope = record s { constants = s.constants ++ c ∷ []; symbols = s.symbols ++ c ∷ [] } in
    let k = unknown s c (look c) (known c) l m in
    with_name (KnowsWord t) c name.Constant look (record {
      constant = push_here c s.constants;
      symbol = push_here c s.symbols;
      label = l;
      variable = k.variable;
      float = k.float;
      hypothesis = k.hypothesis;
      assertion = k.assertion;
    }) (λ w differ. record {
      constant = push_other w c s.constants _ differ (known w).constant;
      symbol = push_other w c s.symbols _ differ (known w).symbol;
      label = (known w).label;
      variable = (known w).variable;
      float = (known w).float;
      hypothesis = (known w).hypothesis;
      assertion = (known w).assertion;
    })

pub knows_variable : (s : Scope) (v : Word) (look : Word → Option Name) → ((w : Word) → KnowsWord s w (look w))
    → is_in s.labels v ≡ false → is_in s.constants v ≡ false → is_in s.variables v ≡ false
    → (w : Word) → KnowsWord (record s { variables = s.variables ++ v ∷ []; symbols = s.symbols ++ v ∷ [] }) w
    (cond (bytes_eq v w) (Some (name.Variable (length s.variables) (float_place (look v)))) (look w))
knows_variable s v look known l c inactive =
    let t : Scope = record s { variables = s.variables ++ v ∷ []; symbols = s.symbols ++ v ∷ [] } in
    let k = known v in
    let none = no_label (look v) (sym k.label ∙ l) in
    with_name (KnowsWord t) v (name.Variable (length s.variables) (float_place (look v))) look (record {
      constant = c;
      symbol = push_here v s.symbols;
      label = l;
      variable = found_here (bytes_eq v) s.variables v inactive;
      float = k.float;
      hypothesis = subst (λ o. Found (λ h. bytes_eq v (label_of h)) s.hypotheses o) none.0 k.hypothesis;
      assertion = subst (λ o. Found (λ a. bytes_eq v a.label) s.assertions o) none.1 k.assertion;
    }) (λ w differ. record {
      constant = (known w).constant;
      symbol = push_other w v s.symbols _ differ (known w).symbol;
      label = (known w).label;
      variable = found_push (bytes_eq w) s.variables v (variable_place (look w)) differ (known w).variable;
      float = (known w).float;
      hypothesis = (known w).hypothesis;
      assertion = (known w).assertion;
    })

-- ---- one more label

-- of a hypothesis: of a word that isn't its variable
knows_label : (s : Scope) (h : Hypothesis) (look : Word → Option Name) → ((w : Word) → KnowsWord s w (look w))
    → is_in s.labels (label_of h) ≡ false → is_in s.symbols (label_of h) ≡ false
    → (w : Word) → is_float_of w h ≡ false
    → KnowsWord (record s { hypotheses = s.hypotheses ++ h ∷ []; labels = s.labels ++ label_of h ∷ [] }) w
    (cond (bytes_eq (label_of h) w) (Some (name.Hypothesis (length s.hypotheses))) (look w))
knows_label s h look known l m =
    let t : Scope = record s { hypotheses = s.hypotheses ++ h ∷ []; labels = s.labels ++ label_of h ∷ [] } in
    let c = label_of h in
    let k = unknown s c (look c) (known c) l m in
    with_name (λ w o. is_float_of w h ≡ false → KnowsWord t w o) c (name.Hypothesis (length s.hypotheses)) look (λ apart. record {
      constant = k.constant;
      symbol = m;
      label = push_here c s.labels;
      variable = k.variable;
      float = found_push (is_float_of c) s.hypotheses h None apart k.float;
      hypothesis = found_here (λ h. bytes_eq c (label_of h)) s.hypotheses h
          (found_any (λ h. bytes_eq c (label_of h)) s.hypotheses None k.hypothesis);
      assertion = k.assertion;
    }) (λ w differ apart. record {
      constant = (known w).constant;
      symbol = (known w).symbol;
      label = push_other w c s.labels _ differ (known w).label;
      variable = (known w).variable;
      float = found_push (is_float_of w) s.hypotheses h (float_place (look w)) apart (known w).float;
      hypothesis = found_push (λ h. bytes_eq w (label_of h)) s.hypotheses h (hypothesis_place (look w)) differ (known w).hypothesis;
      assertion = (known w).assertion;
    })

pub knows_premise : (s : Scope) (label : Word) (ws : List Word) (look : Word → Option Name) → ((w : Word) → KnowsWord s w (look w))
    → is_in s.labels label ≡ false → is_in s.symbols label ≡ false
    → (w : Word) → KnowsWord (record s { hypotheses = s.hypotheses ++ premise label ws ∷ []; labels = s.labels ++ label ∷ [] }) w
    (cond (bytes_eq label w) (Some (name.Hypothesis (length s.hypotheses))) (look w))
knows_premise s label ws look known l m w = knows_label s (premise label ws) look known l m w refl

pub knows_float : (s : Scope) (label c v : Word) (i : ℕ) (f : Option ℕ) (look : Word → Option Name) → ((w : Word) → KnowsWord s w (look w))
    → is_in s.labels label ≡ false → is_in s.symbols label ≡ false
    → look v ≡ Some (name.Variable i f) → list_any (is_float_of v) s.hypotheses ≡ false
    → (w : Word) → KnowsWord (record s { hypotheses = s.hypotheses ++ typing label c v ∷ []; labels = s.labels ++ label ∷ [] }) w
    (cond (bytes_eq v w) (Some (name.Variable i (Some (length s.hypotheses))))
    (cond (bytes_eq label w) (Some (name.Hypothesis (length s.hypotheses))) (look w)))
knows_float s label c v i f look known l m at free =
    let h = typing label c v in
    let t : Scope = record s { hypotheses = s.hypotheses ++ h ∷ []; labels = s.labels ++ label ∷ [] } in
    let k : KnowsWord s v (Some (name.Variable i f)) = subst (λ o. KnowsWord s v o) at (known v) in
    let differ : bytes_eq v label ≡ false = differs s v label k.symbol m in
    with_name (KnowsWord t) v (name.Variable i (Some (length s.hypotheses)))
    (λ w. cond (bytes_eq label w) (Some (name.Hypothesis (length s.hypotheses))) (look w)) (record {
      constant = k.constant;
      symbol = k.symbol;
      label = push_other v label s.labels false differ k.label;
      variable = k.variable;
      float = found_here (is_float_of v) s.hypotheses h free;
      hypothesis = found_push (λ h. bytes_eq v (label_of h)) s.hypotheses h None differ k.hypothesis;
      assertion = k.assertion;
    }) (λ w apart. knows_label s h look known l m w apart)
  where
    differs : (s : Scope) (v label : Word) → is_in s.symbols v ≡ true → is_in s.symbols label ≡ false → bytes_eq v label ≡ false
    differs s v label y n =
        elim (cases_Bool (bytes_eq v label)) [
          | inl e ↦ let same : v ≡ label = same_bytes v label e in absurd (let z : true ≡ false =
              sym y ∙ ap (is_in s.symbols) same ∙ n in cc)
          | inr e ↦ e
        ]

pub knows_assertion : (s : Scope) (a : Assertion) (look : Word → Option Name) → ((w : Word) → KnowsWord s w (look w))
    → is_in s.labels a.label ≡ false → is_in s.symbols a.label ≡ false
    → (w : Word) → KnowsWord (record s { labels = s.labels ++ a.label ∷ []; assertions = s.assertions ++ a ∷ [] }) w
    (cond (bytes_eq a.label w) (Some (name.Assertion (length s.assertions))) (look w))
knows_assertion s a look known l m =
    let t : Scope = record s { labels = s.labels ++ a.label ∷ []; assertions = s.assertions ++ a ∷ [] } in
    let c = a.label in
    let k = unknown s c (look c) (known c) l m in
    with_name (KnowsWord t) c (name.Assertion (length s.assertions)) look (record {
      constant = k.constant;
      symbol = m;
      label = push_here c s.labels;
      variable = k.variable;
      float = k.float;
      hypothesis = k.hypothesis;
      assertion = found_here (λ a. bytes_eq c a.label) s.assertions a
          (found_any (λ a. bytes_eq c a.label) s.assertions None k.assertion);
    }) (λ w differ. record {
      constant = (known w).constant;
      symbol = (known w).symbol;
      label = push_other w c s.labels _ differ (known w).label;
      variable = (known w).variable;
      float = (known w).float;
      hypothesis = (known w).hypothesis;
      assertion = found_push (λ a. bytes_eq w a.label) s.assertions a (assertion_place (look w)) differ (known w).assertion;
    })

-- ---- less that is active

pub knows_less : (s : Scope) (outermost : Bool) (vs hs : ℕ) (pairs : List (Word × Word)) (w : Word) (o : Option Name) → KnowsWord s w o
    → KnowsWord (record s {
      outermost = outermost;
      variables = take vs s.variables;
      hypotheses = take hs s.hypotheses;
      pairs = pairs;
    }) w o
knows_less s outermost vs hs pairs w o k = record {
  constant = k.constant;
  symbol = k.symbol;
  label = k.label;
  variable = found_take (bytes_eq w) s.variables vs (variable_place o) k.variable;
  float = found_take (is_float_of w) s.hypotheses hs (float_place o) k.float;
  hypothesis = found_take (λ h. bytes_eq w (label_of h)) s.hypotheses hs (hypothesis_place o) k.hypothesis;
  assertion = k.assertion;
}
