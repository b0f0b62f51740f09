-- What the labels of a proof name in the source and in the library: an active hypothesis, or an earlier assertion that is taken.
use Rattle.std.proofs.Common.{◌≡◌, ℕ, suc, Bool, true, false, List, [], ◌∷◌, ◌++◌, map, refl, sym, ap, ◌∙◌, subst, inl, inr}
use mathlib.Core.Path.{ap₂}
use mathlib.Core.Bool.{not}
use Rattle.std.specs.Prelude.{Some, None, ◌||◌, ◌&&◌, find, filter, slice_get, All}
use Rattle.std.specs.Option.{option_map}
use Rattle.std.specs.List.{list_any, AllByRecursion}
use Rattle.std.specs.Str.{bytes_eq}
use Rattle.std.proofs.lemmas.Bool.{cases_Bool, cond-true, cond-false, or_cases, or_from, or_parts, not-false}
use Rattle.std.proofs.lemmas.Option.{same_Some}
use Rattle.std.proofs.lemmas.List.Elements.{recursion_from_All}
use Rattle.mmtext.specs.Words.{Word}
use Rattle.mmsyntax.specs.declared.statement.Symbol.{Symbol}
use Rattle.mmsyntax.specs.declared.statement.Symbol.TheVariants.{Const, Var}
use Rattle.mmsyntax.specs.declared.statement.Step.TheVariants.{Float, Hyp, Cite}
use Rattle.mmsyntax.specs.declared.statement.Assertion.{Assertion as Unit'}
use Rattle.mmsyntax.specs.Tables.{Tables, place_of}
use Rattle.mmsyntax.specs.Assertions.{Distinct}
use Rattle.mmsyntax.proofs.Names.{bytes_eq-same, same_bytes}
use Rattle.mmsyntax.proofs.Distinct.{place_of-absent}
use Rattle.mmsyntax.proofs.Items.{not_found_is_none, found_is_any}
use Rattle.derivation.specs.Derivation.{Citable}
use Rattle.derivation.specs.Databases.{frame_in}
use Rattle.source.specs.Scopes.{Hypothesis, typing, premise, label_of, Assertion, Scope, is_in, is_mandatory}
use Rattle.source.specs.Whole.{IsWhole, IsAssertionWhole, AreAssertionsWhole}
use Rattle.taking.specs.Names.{Map, HasPlaces, float_in, label_in, is_float_labelled, has_float_labelled}
use Rattle.taking.specs.Says.{both, each, symbol_in, expression_in, premises, IsFloatTaken, SaysSame}
use Rattle.taking.specs.Listings.{own_step, premise_labels}
use Rattle.taking.specs.Reasons.{Choice, is_left_out}
use Rattle.taking.specs.Taken.{AreTaken, chosen_of}
use Rattle.agreement.proofs.Actives.{AreOrderly, AreOrdered, IsTyped}
use Rattle.agreement.proofs.Symbols.{of_found, found_passes, of_constant}
use Rattle.agreement.proofs.Said.{IsOwn, IsSaid, HaveRisingPlaces, all_own, rising, no_constant, none_kept}
use Rattle.agreement.proofs.Frames.{IsAmong, among_kept, found_among, own_symbol}
use Rattle.agreement.proofs.Substituted.{each_cons, each_short}
use Rattle.agreement.proofs.Chosen.{any_among, among_front, frame_found, taken_of}
use Rattle.agreement.proofs.Trees.{IsPut, IsNamed}

-- what is so of all items is so of each
pub of_all : {A : Type 0} (P : A → Type 0) (xs : List A) (x : A) → AllByRecursion P xs → IsAmong x xs → P x
of_all P [] x a h = absurd h
of_all P (y ∷ ys) x a (inl e) = subst P e a.0
of_all P (y ∷ ys) x a (inr h) = of_all P ys x a.1 h

-- a word that is kept passes
kept_passes : (test : Word → Bool) (w : Word) (ls : List Word) → list_any (bytes_eq w) (filter test ls) ≡ true → test w ≡ true
kept_passes test w [] h = absurd cc
kept_passes test w (l ∷ ls) h = elim (cases_Bool (test l)) [
  | inl y ↦
      let kept : (bytes_eq w l || list_any (bytes_eq w) (filter test ls)) ≡ true =
      ap (list_any (bytes_eq w)) (sym (cond-true (test l) (l ∷ filter test ls) (filter test ls) y)) ∙ h in
      elim (or_cases (bytes_eq w l) (list_any (bytes_eq w) (filter test ls)) kept) [
        | inl here ↦ ap test (same_bytes w l here) ∙ y
        | inr later ↦ kept_passes test w ls later
      ]
  | inr n ↦
      kept_passes test w ls
      (ap (list_any (bytes_eq w)) (sym (cond-false (test l) (l ∷ filter test ls) (filter test ls) n)) ∙ h)
]

-- the first that passes among all that fail another test
no_floats : (w : Word) (xs : List Assertion) → AllByRecursion (λ x. AllByRecursion (λ h. bytes_eq w (label_of h) ≡ false) x.active) xs
    → list_any (has_float_labelled w) xs ≡ false
no_floats w [] a = refl
no_floats w (x ∷ xs) a =
    or_from (has_float_labelled w x) (list_any (has_float_labelled w) xs) (no_float w x.active a.0) (no_floats w xs a.1)
  where
    no_float : (w : Word) (hs : List Hypothesis) → AllByRecursion (λ h. bytes_eq w (label_of h) ≡ false) hs
        → list_any (is_float_labelled w) hs ≡ false
    no_float w [] a = refl
    no_float w (typing label c v ∷ hs) a = or_from (bytes_eq w label) (list_any (is_float_labelled w) hs) a.0 (no_float w hs a.1)
    no_float w (premise label ws ∷ hs) a = no_float w hs a.1

-- ---- the places of $e

record IsPremise (m : Map) (active hs : List Hypothesis) (es : List (List Symbol)) (w : Word) (ws : List Word) : Type 0 where
  place : ℕ
  gives : List Symbol
  at : place_of (bytes_eq w) (premise_labels hs) ≡ Some place
  there : slice_get es place ≡ Some gives
  is : expression_in m active ws ≡ Some gives

premise_at : (m : Map) (active hs : List Hypothesis) (es : List (List Symbol)) (w label : Word) (ws : List Word)
    → find (λ h. bytes_eq w (label_of h)) hs ≡ Some (premise label ws) → each (expression_in m active) (premises hs) ≡ Some es
    → IsPremise m active hs es w ws
premise_at m active [] es w label ws found e = absurd cc
premise_at m active (typing l c v ∷ hs) es w label ws found e = elim (cases_Bool (bytes_eq w l)) [
  | inl y ↦ absurd
      (let no : typing l c v ≡ premise label ws =
      same_Some (typing l c v) (premise label ws) (sym (cond-true (bytes_eq w l) (Some (typing l c v)) _ y) ∙ found) in
      cc)
  | inr n ↦
      let later = premise_at m active hs es w label ws (sym (cond-false (bytes_eq w l) (Some (typing l c v)) _ n) ∙ found) e in
      record { place = later.place; gives = later.gives; at = later.at; there = later.there; is = later.is }
]
premise_at m active (premise l us ∷ hs) [] w label ws found e = absurd (each_short (expression_in m active) us (premises hs) e)
premise_at m active (premise l us ∷ hs) (z ∷ es) w label ws found e =
    let parts = each_cons (expression_in m active) us (premises hs) z es e in
    elim (cases_Bool (bytes_eq w l)) [
      | inl y ↦
          let same : premise l us ≡ premise label ws =
          same_Some (premise l us) (premise label ws) (sym (cond-true (bytes_eq w l) (Some (premise l us)) _ y) ∙ found) in
          let words : us ≡ ws = cc in
          record {
            place = 0;
            gives = z;
            at = cond-true (bytes_eq w l) (Some 0) _ y;
            there = refl;
            is = ap (expression_in m active) (sym words) ∙ parts.0;
          }
      | inr n ↦
          let later = premise_at m active hs es w label ws (sym (cond-false (bytes_eq w l) (Some (premise l us)) _ n) ∙ found) parts.1 in
          record {
            place = suc later.place;
            gives = later.gives;
            at = cond-false (bytes_eq w l) (Some 0) _ n ∙ ap (λ o. option_map (λ n. suc n) o) later.at;
            there = later.there;
            is = later.is;
          }
    ]

no_premise_of : (w : Word) (hs : List Hypothesis) → list_any (λ h. bytes_eq w (label_of h)) hs ≡ false
    → list_any (bytes_eq w) (premise_labels hs) ≡ false
no_premise_of w [] h = refl
no_premise_of w (typing label c v ∷ hs) h = no_premise_of w hs (or_parts (bytes_eq w label) _ h).1
no_premise_of w (premise label ws ∷ hs) h =
    let both = or_parts (bytes_eq w label) (list_any (λ h. bytes_eq w (label_of h)) hs) h in
    or_from (bytes_eq w label) (list_any (bytes_eq w) (premise_labels hs)) both.0 (no_premise_of w hs both.1)

-- where the label is that of a $f, it is that of no $e
no_premise_beside : (label c v : Word) (hs : List Hypothesis)
    → AllByRecursion (λ k. label ≡ label_of k → typing label c v ≡ k) hs → list_any (bytes_eq label) (premise_labels hs) ≡ false
no_premise_beside label c v [] a = refl
no_premise_beside label c v (typing l d u ∷ hs) a = no_premise_beside label c v hs a.1
no_premise_beside label c v (premise l ws ∷ hs) a =
    let other : bytes_eq label l ≡ false = elim (cases_Bool (bytes_eq label l)) [
      | inl y ↦ absurd (let no : typing label c v ≡ premise l ws = a.0 (same_bytes label l y) in cc)
      | inr n ↦ n
    ] in
    or_from (bytes_eq label l) (list_any (bytes_eq label) (premise_labels hs)) other (no_premise_beside label c v hs a.1)

-- ---- a source, and what is taken of it

module _ (m : Map) (t : Tables) (s : Scope) (choice : Choice) (whole : IsWhole s) (orderly : AreOrderly s)
    (has_places : HasPlaces m t s (chosen_of choice s)) where
  whole_behind : (earlier xs : List Assertion) (y : Assertion) → AreAssertionsWhole s earlier xs → IsAmong y xs
      → (front : List Assertion) × IsAssertionWhole s front y
  whole_behind earlier [] y a h = absurd h
  whole_behind earlier (x ∷ xs) y a (inl e) = (earlier, subst (IsAssertionWhole s earlier) e a.0)
  whole_behind earlier (x ∷ xs) y a (inr h) = whole_behind (earlier ++ x ∷ []) xs y a.1 h

  -- an assertion and what is taken of it
  pub said_of : (y : Assertion) (b : Unit') → IsAmong y s.assertions → is_in choice.chosen y.label ≡ true → SaysSame m t y b
      → IsSaid m t y b
  said_of y b among chosen says =
      let ordered = of_all (λ z. AreOrdered s.labels z.active) s.assertions y
      (recursion_from_All (λ z. AreOrdered s.labels z.active) s.assertions orderly.asserted) among in
      let typed = of_all (λ z. All (IsTyped s) z.active) s.assertions y
      (recursion_from_All (λ z. All (IsTyped s) z.active) s.assertions orderly.typed.1) among in
      let is_whole = whole_behind [] s.assertions y whole.assertions among in
      let kept = among_kept (λ z. is_in choice.chosen z.label) s.assertions y chosen among in
      let places = rising m t s (chosen_of choice s) y (is_mandatory y.active y.statement) has_places orderly.labels ordered
      (λ label h. any_among (has_float_labelled label) (chosen_of choice s) y kept h) in
      record {
        says = says;
        taken = recursion_from_All (IsFloatTaken m t) y.active says.floats;
        own = all_own y.active ordered.alone;
        apart = λ w h.
            no_constant m t s (chosen_of choice s) y w has_places (recursion_from_All (IsTyped s) y.active typed) h;
        mandatory = is_whole.1.mandatory;
        places = subst (HaveRisingPlaces m) is_whole.1.mandatory places;
      }

  -- ---- labels of hypotheses

  module _ (x : Assertion) (a : Unit') (lib : Citable) (earlier : List Assertion) (among : IsAmong x s.assertions) (sx : IsSaid m t x a)
    where
      agrees : (h : Hypothesis) → IsAmong h x.active → AllByRecursion (λ k. label_of h ≡ label_of k → h ≡ k) x.active
      agrees h is =
          let here = of_all (λ y. All (λ z. All (λ h. All (λ k. label_of h ≡ label_of k → h ≡ k) z.active) y.active) s.assertions)
          s.assertions x (recursion_from_All _ s.assertions whole.agree) among in
          let own = of_all (λ z. All (λ h. All (λ k. label_of h ≡ label_of k → h ≡ k) z.active) x.active) s.assertions x
          (recursion_from_All _ s.assertions here) among in
          let one = of_all (λ h. All (λ k. label_of h ≡ label_of k → h ≡ k) x.active) x.active h (recursion_from_All _ x.active own) is in
          recursion_from_All (λ k. label_of h ≡ label_of k → h ≡ k) x.active one

      put_at : (w : Word) (h : Hypothesis) → find (λ h. bytes_eq w (label_of h)) x.active ≡ Some h
          → IsPut m t x a lib w h
      put_at w (premise label ws) found =
          let p = premise_at m x.active x.active a.hyps w label ws found sx.says.hyps in
          record {
            own = Hyp p.place;
            gives = p.gives;
            step = ap (λ o. own_step o (float_in m w) (label_in m w)) p.at;
            is = p.is;
            moves = λ st. (p.gives, p.there, refl);
          }
      put_at w (typing label c v) found =
          let f = of_found (λ h. IsOwn x.active h) (λ h. bytes_eq w (label_of h)) x.active (typing label c v) sx.own found in
          let g = (of_found (IsFloatTaken m t) (λ h. bytes_eq w (label_of h)) x.active (typing label c v) sx.taken found).0 in
          let same : w ≡ label = same_bytes w label f.1 in
          let none : place_of (bytes_eq w) (premise_labels x.active) ≡ None =
          ap (λ l. place_of (bytes_eq l) (premise_labels x.active)) same
          ∙ place_of-absent (bytes_eq label) (premise_labels x.active)
          (no_premise_beside label c v x.active
          (agrees (typing label c v) (found_among (λ h. bytes_eq w (label_of h)) x.active (typing label c v) found))) in
          let first : symbol_in m x.active c ≡ Some (Const g.1.type_code) = of_constant m x.active c g.1.type_code g.4 in
          let second : symbol_in m x.active v ≡ Some (Var g.0) = own_symbol m t x a sx label c v g.0 f.0 g.2 in
          record {
            own = Float g.0;
            gives = Const g.1.type_code ∷ Var g.0 ∷ [];
            step =
                ap₂ (λ o j. own_step o j (label_in m w)) none (ap (float_in m) same ∙ g.2);
            is = ap₂ both first (ap (λ o. both o (Some [])) second);
            moves = λ st. (Const g.1.type_code ∷ Var g.0 ∷ [], (g.1, g.3, refl), refl);
          }

      pub puts : (w : Word) (h : Hypothesis) → find (λ h. bytes_eq w (label_of h)) x.active ≡ Some h
          → IsPut m t x a lib w h
      puts w h found = put_at w h found

  -- ---- labels of assertions

  -- the label of an assertion is that of no $f
  no_place : (w : Word) (c : Assertion) → IsAmong c s.assertions → bytes_eq w c.label ≡ true → float_in m w ≡ None
  no_place w c among same =
      let apart = recursion_from_All (λ (x : Assertion). All (λ h. list_any (λ (y : Assertion). bytes_eq (label_of h) y.label) s.assertions
      ≡ false) x.active) s.assertions whole.apart in
      let test = λ (l : Word). list_any (has_float_labelled l) (chosen_of choice s) in
      let none : test w ≡ false = none_kept (has_float_labelled w) (λ x. is_in choice.chosen x.label) s.assertions
      (no_floats w s.assertions (each_apart s.assertions apart)) in
      let absent : list_any (bytes_eq w) (filter test s.labels) ≡ false = elim (cases_Bool (list_any (bytes_eq w) (filter test s.labels))) [
        | inl y ↦ absurd (let yes : test w ≡ true = kept_passes test w s.labels y in cc)
        | inr n ↦ n
      ] in
      ap (place_of (bytes_eq w)) has_places.floats ∙ place_of-absent (bytes_eq w) (filter test s.labels) absent
    where
      each_hypothesis : (hs : List Hypothesis)
          → AllByRecursion (λ h. list_any (λ (y : Assertion). bytes_eq (label_of h) y.label) s.assertions ≡ false) hs
          → AllByRecursion (λ h. bytes_eq w (label_of h) ≡ false) hs
      each_hypothesis [] a = tt
      each_hypothesis (h ∷ hs) a = (
        elim (cases_Bool (bytes_eq w (label_of h))) [
          | inl y ↦ absurd
              (let label : label_of h ≡ c.label = sym (same_bytes w (label_of h) y) ∙ same_bytes w c.label same in
              let yes : list_any (λ (y : Assertion). bytes_eq (label_of h) y.label) s.assertions ≡ true =
              any_among (λ (y : Assertion). bytes_eq (label_of h) y.label) s.assertions c among
              (ap (bytes_eq (label_of h)) (sym label) ∙ bytes_eq-same (label_of h)) in
              let no = a.0 in
              cc)
          | inr n ↦ n
        ],
        each_hypothesis hs a.1,
      )

      each_apart : (xs : List Assertion)
          → AllByRecursion (λ (x : Assertion). All (λ h. list_any (λ (y : Assertion). bytes_eq (label_of h) y.label) s.assertions ≡ false)
          x.active) xs
          → AllByRecursion (λ x. AllByRecursion (λ h. bytes_eq w (label_of h) ≡ false) x.active) xs
      each_apart [] a = tt
      each_apart (x ∷ xs) a = (each_hypothesis x.active (recursion_from_All _ x.active a.0), each_apart xs a.1)

  module _ (x : Assertion) (a : Unit') (earlier later : List Assertion) (front : List Unit') (sx : IsSaid m t x a)
      (are : s.assertions ≡ earlier ++ later) (taken : AreTaken m t choice [] earlier front)
      (differ : Distinct bytes_eq (map (λ b. b.label) front)) where
    pub cites : (w : Word) (c : Assertion) → find (λ h. bytes_eq w (label_of h)) x.active ≡ None
        → find (λ c. bytes_eq w c.label) earlier ≡ Some c → is_left_out earlier choice.chosen w ≡ false
        → IsNamed m t x (frame_in t front) w c
    cites w c absent found kept =
        let is = found_among (λ c. bytes_eq w c.label) earlier c found in
        let same : bytes_eq w c.label ≡ true = found_passes (λ c. bytes_eq w c.label) earlier c found in
        let among : IsAmong c s.assertions = subst (IsAmong c) (sym are) (among_front earlier later c is) in
        let chosen : is_in choice.chosen w ≡ true =
        not-false (is_in choice.chosen w)
        (ap (λ b. b && not (is_in choice.chosen w)) (sym (found_is_any (λ c. bytes_eq w c.label) earlier c found)) ∙ kept) in
        let own : is_in choice.chosen c.label ≡ true = ap (is_in choice.chosen) (sym (same_bytes w c.label same)) ∙ chosen in
        let b = taken_of m t choice [] earlier front c taken is own in
        let none : place_of (bytes_eq w) (premise_labels x.active) ≡ None =
        place_of-absent (bytes_eq w) (premise_labels x.active)
        (no_premise_of w x.active (not_found_is_none (λ h. bytes_eq w (label_of h)) x.active absent)) in
        record {
          theorem = b.theorem;
          said = said_of c b.theorem among own b.says;
          step =
              ap₂ (λ o j. own_step o j (label_in m w)) none (no_place w c among same)
              ∙ ap (λ o. option_map (λ l. Cite l) o) (ap (label_in m) (same_bytes w c.label same) ∙ b.says.label);
          there = frame_found t front b.theorem differ b.among;
        }
