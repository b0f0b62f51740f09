-- An assertion of a source beside the one that is taken of it: each active $f is that of its variable, no variable is a constant, and the
-- mandatory $f have places that ascend.
use Rattle.std.proofs.Common.{◌≡◌, ℕ, Bool, true, false, List, [], ◌∷◌, refl, sym, ap, ◌∙◌, subst, inl, inr}
use Rattle.std.specs.Prelude.{Some, None, find, filter, ◌||◌}
use Rattle.std.specs.List.{list_any, AllByRecursion}
use Rattle.std.specs.Str.{bytes_eq}
use Rattle.std.proofs.lemmas.Bool.{cases_Bool, cond-true, cond-false, or_parts, or_from, or_left, or_right}
use Rattle.mmtext.specs.Words.{Word}
use Rattle.mmsyntax.specs.declared.statement.Assertion.{Assertion as Unit'}
use Rattle.mmsyntax.specs.Tables.{Tables, place_of}
use Rattle.mmsyntax.specs.Assertions.{Distinct}
use Rattle.mmsyntax.proofs.Names.{bytes_eq-same, bytes_eq-sym, same_bytes}
use Rattle.mmsyntax.proofs.Distinct.{place_of-absent}
use Rattle.mmframes.proofs.Mandatory.{Rises}
use Rattle.source.specs.Scopes.{Hypothesis, typing, premise, Assertion, Scope, is_in, is_float_of, is_mandatory}
use Rattle.taking.specs.Names.{Map, HasPlaces, constant_in, float_in, is_symbol_of, is_float_labelled, has_float_labelled}
use Rattle.taking.specs.Says.{each, IsFloatTaken, SaysSame}
use Rattle.agreement.proofs.Within.{IsWithin, later_within, within_within, passing_within, places, places_rise}
use Rattle.agreement.proofs.Actives.{labels_of_floats, variables_of_floats, AreOrdered, IsTyped}

-- ---- each active $f is that of its variable

-- a $f is the first of its variable
abbrev pub IsOwn : List Hypothesis → Hypothesis → Type 0
IsOwn all (typing label c v) = find (is_float_of v) all ≡ Some (typing label c v)
IsOwn all (premise label ws) = Unit {0}

own_later : (label c v : Word) (all hs : List Hypothesis) → list_any (bytes_eq v) (variables_of_floats hs) ≡ false
    → AllByRecursion (IsOwn all) hs → AllByRecursion (IsOwn (typing label c v ∷ all)) hs
own_later label c v all [] n a = tt
own_later label c v all (premise l ws ∷ hs) n a = (tt, own_later label c v all hs n a.1)
own_later label c v all (typing l d u ∷ hs) n a =
    let both = or_parts (bytes_eq v u) (list_any (bytes_eq v) (variables_of_floats hs)) n in (
      cond-false (bytes_eq u v) (Some (typing label c v)) (find (is_float_of u) all) (bytes_eq-sym u v ∙ both.0) ∙ a.0,
      own_later label c v all hs both.1 a.1,
    )

own_behind : (label : Word) (ws : List Word) (all hs : List Hypothesis) → AllByRecursion (IsOwn all) hs
    → AllByRecursion (IsOwn (premise label ws ∷ all)) hs
own_behind label ws all [] a = tt
own_behind label ws all (premise l us ∷ hs) a = (tt, own_behind label ws all hs a.1)
own_behind label ws all (typing l d u ∷ hs) a = (a.0, own_behind label ws all hs a.1)

pub all_own : (hs : List Hypothesis) → Distinct bytes_eq (variables_of_floats hs) → AllByRecursion (IsOwn hs) hs
all_own [] d = tt
all_own (typing label c v ∷ hs) d = (
  cond-true (bytes_eq v v) (Some (typing label c v)) (find (is_float_of v) hs) (bytes_eq-same v),
  own_later label c v hs hs d.0 (all_own hs d.1),
)
all_own (premise label ws ∷ hs) d = (tt, own_behind label ws hs hs (all_own hs d))

-- ---- filters

pub all_kept : {A : Type 0} (P : A → Type 0) (test : A → Bool) (xs : List A) → AllByRecursion P xs → AllByRecursion P (filter test xs)
all_kept P test [] a = tt
all_kept P test (x ∷ xs) a =
    elim (cases_Bool (test x)) [
      | inl y ↦
          subst (AllByRecursion P) (sym (cond-true (test x) (x ∷ filter test xs) (filter test xs) y)) (a.0, all_kept P test xs a.1)
      | inr n ↦ subst (AllByRecursion P) (sym (cond-false (test x) (x ∷ filter test xs) (filter test xs) n)) (all_kept P test xs a.1)
    ]

pub none_kept : {A : Type 0} (p test : A → Bool) (xs : List A) → list_any p xs ≡ false → list_any p (filter test xs) ≡ false
none_kept p test [] h = refl
none_kept p test (x ∷ xs) h =
    let both = or_parts (p x) (list_any p xs) h in
    elim (cases_Bool (test x)) [
      | inl y ↦
          ap (list_any p) (cond-true (test x) (x ∷ filter test xs) (filter test xs) y)
          ∙ or_from (p x) (list_any p (filter test xs)) both.0 (none_kept p test xs both.1)
      | inr n ↦ ap (list_any p) (cond-false (test x) (x ∷ filter test xs) (filter test xs) n) ∙ none_kept p test xs both.1
    ]

pub distinct_kept : (test : Word → Bool) (ws : List Word) → Distinct bytes_eq ws → Distinct bytes_eq (filter test ws)
distinct_kept test [] d = tt
distinct_kept test (w ∷ ws) d =
    elim (cases_Bool (test w)) [
      | inl y ↦
          subst (Distinct bytes_eq) (sym (cond-true (test w) (w ∷ filter test ws) (filter test ws) y))
          (none_kept (bytes_eq w) test ws d.0, distinct_kept test ws d.1)
      | inr n ↦
          subst (Distinct bytes_eq) (sym (cond-false (test w) (w ∷ filter test ws) (filter test ws) n)) (distinct_kept test ws d.1)
    ]

labels_kept : (test : Hypothesis → Bool) (hs : List Hypothesis) → IsWithin (labels_of_floats (filter test hs)) (labels_of_floats hs)
labels_kept test [] = tt
labels_kept test (typing label c v ∷ hs) =
    let rest = filter test hs in
    elim (cases_Bool (test (typing label c v))) [
      | inl y ↦
          subst (λ gs. IsWithin (labels_of_floats gs) (label ∷ labels_of_floats hs))
          (sym (cond-true (test (typing label c v)) (typing label c v ∷ rest) rest y)) (inl (refl, labels_kept test hs))
      | inr n ↦
          subst (λ gs. IsWithin (labels_of_floats gs) (label ∷ labels_of_floats hs))
          (sym (cond-false (test (typing label c v)) (typing label c v ∷ rest) rest n))
          (later_within label (labels_of_floats rest) (labels_of_floats hs) (labels_kept test hs))
    ]
labels_kept test (premise label ws ∷ hs) =
    let rest = filter test hs in
    elim (cases_Bool (test (premise label ws))) [
      | inl y ↦
          subst (λ gs. IsWithin (labels_of_floats gs) (labels_of_floats hs))
          (sym (cond-true (test (premise label ws)) (premise label ws ∷ rest) rest y)) (labels_kept test hs)
      | inr n ↦
          subst (λ gs. IsWithin (labels_of_floats gs) (labels_of_floats hs))
          (sym (cond-false (test (premise label ws)) (premise label ws ∷ rest) rest n)) (labels_kept test hs)
    ]

-- ---- places of the mandatory $f

-- the labels of the $f of an assertion are labels of $f there
all_labelled : (taken : List Assertion) (hs : List Hypothesis)
    → ((label : Word) → list_any (is_float_labelled label) hs ≡ true → list_any (has_float_labelled label) taken ≡ true)
    → AllByRecursion (λ w. list_any (has_float_labelled w) taken ≡ true) (labels_of_floats hs)
all_labelled taken [] h = tt
all_labelled taken (typing label c v ∷ hs) h = (
  h label (or_left (bytes_eq label label) (list_any (is_float_labelled label) hs) (bytes_eq-same label)),
  all_labelled taken hs (λ l k. h l (or_right (bytes_eq l label) (list_any (is_float_labelled l) hs) k)),
)
all_labelled taken (premise label ws ∷ hs) h = all_labelled taken hs h

pub record HaveRisingPlaces (m : Map) (hs : List Hypothesis) : Type 0 where
  pub are : List ℕ
  pub places : each (float_in m) (labels_of_floats hs) ≡ Some are
  pub rise : Rises 0 are

pub rising : (m : Map) (t : Tables) (s : Scope) (taken : List Assertion) (x : Assertion) (test : Hypothesis → Bool)
    → HasPlaces m t s taken → Distinct bytes_eq s.labels → AreOrdered s.labels x.active
    → ((label : Word) → has_float_labelled label x ≡ true → list_any (has_float_labelled label) taken ≡ true)
    → HaveRisingPlaces m (filter test x.active)
rising m t s taken x test h d o among =
    let test' = λ (w : Word). list_any (has_float_labelled w) taken in
    let active-within = passing_within test' (labels_of_floats x.active) s.labels
    (all_labelled taken x.active among) o.within in
    let within = within_within (labels_of_floats (filter test x.active)) (labels_of_floats x.active) (filter test' s.labels)
    (labels_kept test x.active) active-within in
    let is = places_rise (labels_of_floats (filter test x.active)) (filter test' s.labels) (distinct_kept test' s.labels d) within in
    record {
      are = is.0;
      places = ap (λ ys. places ys (labels_of_floats (filter test x.active))) h.floats ∙ is.1;
      rise = is.2;
    }

-- ---- no variable is a constant

typed_apart : (s : Scope) (w : Word) (hs : List Hypothesis) → AllByRecursion (IsTyped s) hs
    → list_any (is_float_of w) hs ≡ true → is_in s.constants w ≡ false
typed_apart s w [] a h = absurd cc
typed_apart s w (premise label ws ∷ hs) a h = typed_apart s w hs a.1 h
typed_apart s w (typing label c v ∷ hs) a h =
    elim (cases_Bool (bytes_eq w v)) [
      | inl e ↦ ap (is_in s.constants) (same_bytes w v e) ∙ a.0.1
      | inr n ↦ typed_apart s w hs a.1 (sym (ap (λ b. b || list_any (is_float_of w) hs) n) ∙ h)
    ]

pub no_constant : (m : Map) (t : Tables) (s : Scope) (taken : List Assertion) (x : Assertion) (w : Word) → HasPlaces m t s taken
    → AllByRecursion (IsTyped s) x.active → list_any (is_float_of w) x.active ≡ true → constant_in m w ≡ None
no_constant m t s taken x w h a is =
    ap (λ cs. place_of (bytes_eq w) cs) h.constants
    ∙ place_of-absent (bytes_eq w) (filter (λ u. list_any (is_symbol_of u) taken) s.constants)
    (none_kept (bytes_eq w) (λ u. list_any (is_symbol_of u) taken) s.constants (typed_apart s w x.active a is))

-- ---- an assertion and what is taken of it

pub record IsSaid (m : Map) (t : Tables) (y : Assertion) (b : Unit') : Type 0 where
  pub says : SaysSame m t y b
  pub taken : AllByRecursion (IsFloatTaken m t) y.active
  pub own : AllByRecursion (IsOwn y.active) y.active
  pub apart : (w : Word) → list_any (is_float_of w) y.active ≡ true → constant_in m w ≡ None
  pub mandatory : filter (is_mandatory y.active y.statement) y.active ≡ y.hypotheses
  pub places : HaveRisingPlaces m y.hypotheses
