-- Each active $f has its place, with its type and its variable.
use Rattle.std.proofs.Common.{◌≡◌, ◌∙◌, ℕ, suc, ◌+◌, ◌<◌, Bool, true, false, cond, List, [], ◌∷◌, ◌++◌, length, get_or, Option}
use Rattle.std.proofs.Common.{Some, None, refl, sym, ap, subst, inl, inr}
use Rattle.std.specs.Prelude.{◌||◌, All, filter, filter_map, map}
use Rattle.std.specs.Option.{option_map, option_and_then, is_some}
use Rattle.std.specs.List.{list_any, flat_map, slice_get, AllByRecursion, cons_option}
use Rattle.std.specs.Str.{bytes_eq}
use Rattle.std.proofs.lemmas.Bool.{cases_Bool, cond-true, cond-false, or_left, or_right, or_parts}
use Rattle.std.proofs.lemmas.List.{get_or_default}
use Rattle.std.proofs.lemmas.List.Folds.{list_any-append, list_any_at, Any-from_list_any}
use Rattle.std.proofs.lemmas.List.Elements.{recursion_from_All, All-from_recursion, filter_agree}
use Rattle.std.proofs.Math.Bool.{or-false}
use Rattle.mmtext.specs.Words.{Word}
use Rattle.mmsyntax.specs.Tables.{place_of}
use Rattle.mmsyntax.proofs.Names.{bytes_eq-same, same_bytes}
use Rattle.mmsyntax.proofs.Distinct.{is_some-place_of, all_append, all_weaker}
use Rattle.source.specs.Scopes.{Hypothesis, typing, premise, label_of, Assertion, Scope, is_in}
use Rattle.source.specs.Whole.{IsWhole, IsHypothesisWhole, AreAssertionsWhole, AgreeOnLabels}
use Rattle.taking.specs.Names.{is_symbol_of, is_symbol_of_hypothesis, is_float_labelled, has_float_labelled}
use Rattle.source.specs.Flags.{kept}
use Rattle.taking.proofs.Values.{mapped}
use Rattle.sites.specs.Sites.{Sited, IsFloatSited, AreSites}
use Rattle.std.specs.Borrow.{Bor}
use Rattle.mmsyntax.proofs.Options.{mapped_some}
use Rattle.sites.specs.Indexes.{looks_up}
use Rattle.sites.specs.declared.used.Used.{Used}
use Rattle.sites.specs.Used.{noted, is_noted, typed_by, typed, type_at, variable_at}
use Rattle.sites.proofs.Keeping.{kept_all}

-- ---- tests of lists

in_kept : (test : Word → Bool) (w : Word) → test w ≡ true → (ws : List Word) → is_in ws w ≡ true → is_in (filter test ws) w ≡ true
in_kept test w passes [] h = absurd cc
in_kept test w passes (x ∷ ws) h =
    elim (cases_Bool (bytes_eq w x)) [
      | inl y ↦
          let here : test x ≡ true = ap test (sym (same_bytes w x y)) ∙ passes in
          ap (λ us. is_in us w) (cond-true (test x) (x ∷ filter test ws) (filter test ws) here)
          ∙ or_left (bytes_eq w x) (is_in (filter test ws) w) y
      | inr n ↦
          let later : is_in ws w ≡ true = ap (λ b. b || is_in ws w) (sym n) ∙ h in
          let ih = in_kept test w passes ws later in
          elim (cases_Bool (test x)) [
            | inl t ↦
                ap (λ us. is_in us w) (cond-true (test x) (x ∷ filter test ws) (filter test ws) t)
                ∙ or_right (bytes_eq w x) (is_in (filter test ws) w) ih
            | inr f ↦ ap (λ us. is_in us w) (cond-false (test x) (x ∷ filter test ws) (filter test ws) f) ∙ ih
          ]
    ]

-- and what stays passes
passes_kept : (test : Word → Bool) (w : Word) (ws : List Word) → is_in (filter test ws) w ≡ true → test w ≡ true
passes_kept test w [] h = absurd cc
passes_kept test w (x ∷ ws) h =
    elim (cases_Bool (test x)) [
      | inl t ↦
          let front : (bytes_eq w x || is_in (filter test ws) w) ≡ true =
          ap (λ us. is_in us w) (sym (cond-true (test x) (x ∷ filter test ws) (filter test ws) t)) ∙ h in
          elim (cases_Bool (bytes_eq w x)) [
            | inl y ↦ ap test (same_bytes w x y) ∙ t
            | inr n ↦ passes_kept test w ws (ap (λ b. b || is_in (filter test ws) w) (sym n) ∙ front)
          ]
      | inr f ↦ passes_kept test w ws (ap (λ us. is_in us w) (sym (cond-false (test x) (x ∷ filter test ws) (filter test ws) f)) ∙ h)
    ]

-- ---- values of words of a list

-- one that is there stands in front of others
first_value : {A : Type 0} (o : Option A) (xs : List A) → is_some o ≡ true → (x : A) × (o ≡ Some x) × (cons_option o xs ≡ x ∷ xs)
first_value None xs h = absurd cc
first_value (Some x) xs h = (x, refl, refl)

-- as many values as words
pub length_values : {A : Type 0} (f : Word → Option A) (ws : List Word) → ((w : Word) → is_in ws w ≡ true → is_some (f w) ≡ true)
    → length (filter_map f ws) ≡ length ws
length_values f [] h = refl
length_values {A} f (w ∷ ws) h =
    let x = first_value (f w) (filter_map f ws) (h w (or_left (bytes_eq w w) (is_in ws w) (bytes_eq-same w))) in
    ap length x.2 ∙ ap (λ n. suc n) (length_values f ws (λ v is. h v (or_right (bytes_eq v w) (is_in ws v) is)))

-- the value of a word stands at its place
pub value_at : {A : Type 0} (f : Word → Option A) (w : Word) (x : A) → f w ≡ Some x → (ws : List Word)
    → ((v : Word) → is_in ws v ≡ true → is_some (f v) ≡ true) → (j : ℕ) → place_of (bytes_eq w) ws ≡ Some j
    → slice_get (filter_map f ws) j ≡ Some x
value_at f w x is [] h j at = absurd cc
value_at {A} f w x is (v ∷ ws) h j at =
    let y = first_value (f v) (filter_map f ws) (h v (or_left (bytes_eq v v) (is_in ws v) (bytes_eq-same v))) in
    let values : filter_map f (v ∷ ws) ≡ y.0 ∷ filter_map f ws = y.2 in
    elim (cases_Bool (bytes_eq w v)) [
      | inl e ↦
          let first : Some 0 ≡ Some j =
          sym (cond-true (bytes_eq w v) (Some 0) (option_map (λ n. suc n) (place_of (bytes_eq w) ws)) e) ∙ at in
          let zero-is : 0 ≡ j = cc in
          let same : Some y.0 ≡ Some x = sym y.1 ∙ ap f (sym (same_bytes w v e)) ∙ is in
          ap (λ us. slice_get us j) values ∙ ap (λ n. slice_get (y.0 ∷ filter_map f ws) n) (sym zero-is) ∙ same
      | inr n ↦
          let later : option_map (λ n. suc n) (place_of (bytes_eq w) ws) ≡ Some j =
          sym (cond-false (bytes_eq w v) (Some 0) (option_map (λ n. suc n) (place_of (bytes_eq w) ws)) n) ∙ at in
          let p = mapped (λ (n : ℕ). suc n) (place_of (bytes_eq w) ws) j later in
          ap (λ us. slice_get us j) values
          ∙ ap (λ n. slice_get (y.0 ∷ filter_map f ws) n) (sym p.2)
          ∙ value_at f w x is ws (λ u in'. h u (or_right (bytes_eq u v) (is_in ws u) in')) p.0 p.1
    ]

-- ---- what is noted for the label of a $f

or_first : (a b : Bool) → b ≡ false → (a || b) ≡ true → a ≡ true
or_first true b n h = refl
or_first false b n h = absurd cc

some_cond : {A : Type 0} (b : Bool) (x : A) (o : Option A) (t : Bool) → (is_some (cond b (Some x) o) || t) ≡ (is_some o || (b || t))
some_cond true x None t = refl
some_cond true x (Some y) t = refl
some_cond false x o t = refl

-- labelled hypotheses are this one
abbrev Only : Word → Word → Word → Hypothesis → Type 0
Only label c v h = is_float_labelled label h ≡ true → h ≡ typing label c v

typed_none : (w : Word) (o : Option (Word × Word)) (hs : List Hypothesis) → list_any (is_float_labelled w) hs ≡ false → typed w o hs ≡ o
typed_none w o [] h = refl
typed_none w o (typing label c v ∷ hs) h =
    let both = or_parts (bytes_eq w label) (list_any (is_float_labelled w) hs) h in
    ap (λ (b : Bool). typed w (cond b (Some (c, v)) o) hs) both.0 ∙ typed_none w o hs both.1
typed_none w o (premise label ws ∷ hs) h = typed_none w o hs h

typed_only : (w c v : Word) (o : Option (Word × Word)) (hs : List Hypothesis) → AllByRecursion (Only w c v) hs
    → list_any (is_float_labelled w) hs ≡ true → typed w o hs ≡ Some (c, v)
typed_only w c v o [] all h = absurd cc
typed_only w c v o (k ∷ hs) all h =
    elim (cases_Bool (list_any (is_float_labelled w) hs)) [
      | inl later ↦ typed_only w c v (typed_by w o k) hs all.1 later
      | inr none ↦
          let here : is_float_labelled w k ≡ true = or_first (is_float_labelled w k) (list_any (is_float_labelled w) hs) none h in
          let is : k ≡ typing w c v = all.0 here in
          typed_none w (typed_by w o k) hs none
          ∙ ap (typed_by w o) is
          ∙ cond-true (bytes_eq w w) (Some (c, v)) o (bytes_eq-same w)
    ]

-- whether something is noted
pub is_some-typed : (w : Word) (o : Option (Word × Word)) (hs : List Hypothesis)
    → is_some (typed w o hs) ≡ (is_some o || list_any (is_float_labelled w) hs)
is_some-typed w o [] = sym (or-false (is_some o))
is_some-typed w o (typing label c v ∷ hs) =
    is_some-typed w (cond (bytes_eq w label) (Some (c, v)) o) hs
    ∙ some_cond (bytes_eq w label) (c, v) o (list_any (is_float_labelled w) hs)
is_some-typed w o (premise label ws ∷ hs) = is_some-typed w o hs

-- a test of each list of lists
pub any_flat : {A B : Type 0} (test : B → Bool) (f : A → List B) (xs : List A)
    → list_any test (flat_map f xs) ≡ list_any (λ x. list_any test (f x)) xs
any_flat test f [] = refl
any_flat test f (x ∷ xs) =
    list_any-append test (f x) (flat_map f xs) ∙ ap (λ b. list_any test (f x) || b) (any_flat test f xs)

all_flat : {A B : Type 0} (P : B → Type 0) (f : A → List B) (xs : List A) → AllByRecursion (λ x. All P (f x)) xs
    → AllByRecursion P (flat_map f xs)
all_flat P f [] h = tt
all_flat P f (x ∷ xs) h = all_append P (f x) (flat_map f xs) (recursion_from_All P (f x) h.0) (all_flat P f xs h.1)

-- ---- an active $f of a source

float_is : (w : Word) (h : Hypothesis) → is_float_labelled w h ≡ true → (c : Word) × (v : Word) × (h ≡ typing w c v)
float_is w (typing label c v) is = (c, v, ap (λ l. typing l c v) (sym (same_bytes w label is)))
float_is w (premise label ws) is = absurd cc

labelled_is : (w : Word) (h : Hypothesis) → is_float_labelled w h ≡ true → w ≡ label_of h
labelled_is w (typing label c v) is = same_bytes w label is
labelled_is w (premise label ws) is = absurd cc

whole_all : (s : Scope) (earlier xs : List Assertion) → AreAssertionsWhole s earlier xs
    → AllByRecursion (λ x. All (IsHypothesisWhole s x) x.active) xs
whole_all s earlier [] h = tt
whole_all s earlier (x ∷ xs) h = (h.0.hypotheses, whole_all s (earlier ++ x ∷ []) xs h.1)

abbrev pub hypotheses_of : List Assertion → List Hypothesis
hypotheses_of xs = flat_map (λ x. x.active) xs

agree_kept : (s : Scope) → IsWhole s → (fs : List Bool)
    → AllByRecursion (λ x. AllByRecursion (λ y. AgreeOnLabels x.active y.active) (kept fs s.assertions)) (kept fs s.assertions)
agree_kept s whole fs =
    kept_all (λ x. AllByRecursion (λ y. AgreeOnLabels x.active y.active) (kept fs s.assertions)) fs s.assertions
    (all_weaker (λ x. All (λ y. AgreeOnLabels x.active y.active) s.assertions)
    (λ x. AllByRecursion (λ y. AgreeOnLabels x.active y.active) (kept fs s.assertions)) s.assertions
    (λ x h. kept_all (λ y. AgreeOnLabels x.active y.active) fs s.assertions (recursion_from_All _ s.assertions h))
    (recursion_from_All _ s.assertions whole.agree))

-- what is known of it
pub record IsActive (s : Scope) (taken : List Assertion) (label c v : Word) : Type 0 where
  pub noted_as : typed label None (hypotheses_of taken) ≡ Some (c, v)
  pub type_used : is_in (filter (λ w. list_any (is_symbol_of w) taken) s.constants) c ≡ true
  pub label_used : is_in (filter (λ w. list_any (has_float_labelled w) taken) s.labels) label ≡ true

module _ (s : Scope) (whole : IsWhole s) (fs : List Bool) (k : ℕ) (x : Assertion) (within : k < length (kept fs s.assertions))
    (is-x : get_or (kept fs s.assertions) k x ≡ x) (j : ℕ) (h : Hypothesis) (among : j < length x.active)
    (is-h : get_or x.active j h ≡ h) (label c v : Word) (is : h ≡ typing label c v) where
  only : AllByRecursion (Only label c v) (hypotheses_of (kept fs s.assertions))
  only =
      let taken = kept fs s.assertions in
      let agree : AllByRecursion (λ y. AgreeOnLabels x.active y.active) taken =
      subst (λ (z : Assertion). AllByRecursion (λ y. AgreeOnLabels z.active y.active) taken) is-x
      (All-from_recursion (λ z. AllByRecursion (λ y. AgreeOnLabels z.active y.active) taken) taken (agree_kept s whole fs) k x within) in
      all_flat (Only label c v) (λ y. y.active) taken
      (all_weaker (λ y. AgreeOnLabels x.active y.active) (λ y. All (Only label c v) y.active) taken
      (λ y ag. λ i f lt labelled.
      let here : get_or x.active j h ≡ typing label c v = is-h ∙ is in
      let same : label_of (get_or x.active j h) ≡ label_of (get_or y.active i f) =
      ap label_of here ∙ labelled_is label (get_or y.active i f) labelled in
      sym (ag j h among i f lt same) ∙ here)
      agree)

  float_here : is_float_labelled label (get_or x.active j h) ≡ true
  float_here = ap (is_float_labelled label) (is-h ∙ is) ∙ bytes_eq-same label

  float_there : list_any (has_float_labelled label) (kept fs s.assertions) ≡ true
  float_there =
      list_any_at (has_float_labelled label) (kept fs s.assertions) k x within
      (ap (has_float_labelled label) is-x ∙ list_any_at (is_float_labelled label) x.active j h among float_here)

  type_here : is_symbol_of_hypothesis c (get_or x.active j h) ≡ true
  type_here = ap (is_symbol_of_hypothesis c) (is-h ∙ is) ∙ bytes_eq-same c

  type_there : list_any (is_symbol_of c) (kept fs s.assertions) ≡ true
  type_there =
      list_any_at (is_symbol_of c) (kept fs s.assertions) k x within
      (ap (is_symbol_of c) is-x
      ∙ or_right (is_in x.statement c) (list_any (is_symbol_of_hypothesis c) x.active)
      (list_any_at (is_symbol_of_hypothesis c) x.active j h among type_here))

  declared : (is_in s.labels label ≡ true) × (is_in s.constants c ≡ true)
  declared =
      let all = kept_all (λ z. All (IsHypothesisWhole s z) z.active) fs s.assertions (whole_all s [] s.assertions whole.assertions) in
      let at : All (IsHypothesisWhole s x) x.active =
      subst (λ (z : Assertion). All (IsHypothesisWhole s z) z.active) is-x
      (All-from_recursion (λ z. All (IsHypothesisWhole s z) z.active) (kept fs s.assertions) all k x within) in
      subst (λ (z : Hypothesis). IsHypothesisWhole s x z) (is-h ∙ is) (at j h among)

  pub active_float : IsActive s (kept fs s.assertions) label c v
  active_float = record {
    noted_as =
        typed_only label c v None (hypotheses_of (kept fs s.assertions)) only
        (any_flat (is_float_labelled label) (λ y. y.active) (kept fs s.assertions) ∙ float_there);
    type_used = in_kept (λ w. list_any (is_symbol_of w) (kept fs s.assertions)) c type_there s.constants declared.1;
    label_used = in_kept (λ w. list_any (has_float_labelled w) (kept fs s.assertions)) label float_there s.labels declared.0;
  }

-- ---- sites

-- what was gathered, with what is noted for each label
pub record AreGathered (s : Scope) (taken : List Assertion) (look : Word → Option (Word × Word)) (t : Sited) : Type 0 where
  pub look_is : (w : Word) → look w ≡ typed w None (hypotheses_of taken)
  pub constants_are : t.constants ≡ filter (λ w. list_any (is_symbol_of w) taken) s.constants
  pub floats_are : t.floats ≡ filter (λ w. list_any (has_float_labelled w) taken) s.labels
  pub labels_are : t.labels ≡ map (λ x. x.label) taken
  pub types_are : t.types ≡ filter_map (type_at look t.constants) t.floats
  pub variables_are : t.variables ≡ filter_map (variable_at look) t.floats

there : (o : Option ℕ) → is_some o ≡ true → (i : ℕ) × (o ≡ Some i)
there None h = absurd cc
there (Some i) h = (i, refl)

sited_by : (t : Sited) (h : Hypothesis) → ((label c v : Word) → h ≡ typing label c v → IsFloatSited t (typing label c v)) → IsFloatSited t h
sited_by t (typing label c v) f = f label c v refl
sited_by t (premise label ws) f = tt

module _ (s : Scope) (whole : IsWhole s) (fs : List Bool) (look : Word → Option (Word × Word)) (t : Sited)
    (g : AreGathered s (kept fs s.assertions) look t) where
  type_is : (label c v : Word) → IsActive s (kept fs s.assertions) label c v
      → (type_at look t.constants label ≡ place_of (bytes_eq c) t.constants) × (is_some (place_of (bytes_eq c) t.constants) ≡ true)
      × (variable_at look label ≡ Some v)
  type_is label c v a =
      let noted : look label ≡ Some (c, v) = g.look_is label ∙ a.noted_as in (
        ap (option_and_then (λ p. place_of (bytes_eq p.0) t.constants)) noted,
        is_some-place_of (bytes_eq c) t.constants ∙ ap (λ ws. is_in ws c) g.constants_are ∙ a.type_used,
        ap (option_map (λ p. p.1)) noted,
      )

  -- a $f that has a place is active somewhere
  active_of : (w : Word) → is_in t.floats w ≡ true → (c : Word) × (v : Word) × IsActive s (kept fs s.assertions) w c v
  active_of w in' =
      let taken = kept fs s.assertions in
      let passes : list_any (has_float_labelled w) taken ≡ true =
      passes_kept (λ w. list_any (has_float_labelled w) taken) w s.labels (ap (λ ws. is_in ws w) (sym g.floats_are) ∙ in') in
      let at = Any-from_list_any (has_float_labelled w) taken passes in
      let one = Any-from_list_any (is_float_labelled w) at.1.active at.4 in
      let is = float_is w one.1 one.4 in
      (is.0, is.1, active_float s whole fs at.0 at.1 at.2 at.3 one.0 one.1 one.2 one.3 w is.0 is.1 is.2)

  typed_all : (w : Word) → is_in t.floats w ≡ true → is_some (type_at look t.constants w) ≡ true
  typed_all w in' =
      let a = active_of w in' in
      let is = type_is w a.0 a.1 a.2 in
      ap is_some is.0 ∙ is.1

  variable_all : (w : Word) → is_in t.floats w ≡ true → is_some (variable_at look w) ≡ true
  variable_all w in' =
      let a = active_of w in' in
      ap is_some (type_is w a.0 a.1 a.2).2

  sited_float : (label c v : Word) → IsActive s (kept fs s.assertions) label c v → IsFloatSited t (typing label c v)
  sited_float label c v a =
      let is = type_is label c v a in
      let i = there (place_of (bytes_eq c) t.constants) is.1 in
      let used : is_in t.floats label ≡ true = ap (λ ws. is_in ws label) g.floats_are ∙ a.label_used in
      let j = there (place_of (bytes_eq label) t.floats) (is_some-place_of (bytes_eq label) t.floats ∙ used) in (
        j.0,
        i.0,
        j.1,
        i.1,
        ap (λ ns. slice_get ns j.0) g.types_are
            ∙ value_at (type_at look t.constants) label i.0 (is.0 ∙ i.1) t.floats typed_all j.0 j.1,
        ap (λ ws. slice_get ws j.0) g.variables_are ∙ value_at (variable_at look) label v is.2 t.floats variable_all j.0 j.1,
      )

  pub are_sites : AreSites s (kept fs s.assertions) t
  are_sites = record {
    constants = g.constants_are;
    floats = g.floats_are;
    labels = g.labels_are;
    types = ap length g.types_are ∙ length_values (type_at look t.constants) t.floats typed_all;
    variables = ap length g.variables_are ∙ length_values (variable_at look) t.floats variable_all;
    sited = λ k d lt. λ j e among.
        sited_by t (get_or (get_or (kept fs s.assertions) k d).active j e) (λ label c v is.
        sited_float label c v
        (active_float s whole fs k (get_or (kept fs s.assertions) k d) lt
        (get_or_default (kept fs s.assertions) k (get_or (kept fs s.assertions) k d) d lt) j
        (get_or (get_or (kept fs s.assertions) k d).active j e) among (get_or_default (get_or (kept fs s.assertions) k d).active j
        (get_or (get_or (kept fs s.assertions) k d).active j e) e among)
        label c v is));
  }

-- ---- what is noted, and what is used

-- a label is noted where it is that of an active $f
pub floats_noted : (used : Used) (taken : List Assertion) → ((w : Word) → noted used w ≡ typed w None (hypotheses_of taken))
    → (w : Word) → is_noted used w ≡ list_any (has_float_labelled w) taken
floats_noted used taken are w =
    sym (mapped_some (λ (p : Bor (List ℕ) × Bor (List ℕ)). (p.0.now, p.1.now)) (looks_up used.floats w))
    ∙ ap is_some (are w)
    ∙ is_some-typed w None (hypotheses_of taken)
    ∙ any_flat (is_float_labelled w) (λ x. x.active) taken

-- used words, in their order
pub used_words : (has : Word → Bool) (is_used : Word → Bool) → ((w : Word) → has w ≡ is_used w) → (made from ws : List Word)
    → made ≡ filter has from → from ≡ ws → made ≡ filter is_used ws
used_words has is_used same made from ws is all = is ∙ ap (filter has) all ∙ filter_agree has is_used same ws
