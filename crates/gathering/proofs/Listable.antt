-- A tree that cites nothing that isn't chosen has a listing, where the steps of what is chosen are known.
use Rattle.std.proofs.Common.{◌≡◌, ℕ, zero, suc, true, false, List, [], ◌∷◌, length, take, refl, sym, ap, subst, ◌∙◌}
use Rattle.std.proofs.Common.{inl, inr}
use Rattle.std.specs.Prelude.{Option, Some, None, ◌⊎◌, is_some, find, IsTrue, ◌&&◌}
use mathlib.Core.Bool.{not}
use Rattle.std.specs.List.{list_any, AllByRecursion}
use Rattle.std.specs.Str.{bytes_eq}
use Rattle.std.proofs.lemmas.Bool.{cases_Bool, cond-false, or_parts, or_cases, or_left, or_right, not-false}
use Rattle.std.proofs.lemmas.List.Elements.{recursion_from_All}
use Rattle.std.proofs.lemmas.List.Folds.{list_any-append}
use Rattle.mmtext.specs.Words.{Word}
use Rattle.mmsyntax.specs.declared.statement.Step.{Step}
use Rattle.mmsyntax.specs.Tables.{place_of}
use Rattle.mmsyntax.proofs.Distinct.{is_some-place_of}
use Rattle.mmsyntax.proofs.Names.{same_bytes}
use Rattle.mmsyntax.proofs.Items.{found_is_any}
use Rattle.source.specs.Scopes.{Hypothesis, typing, premise, label_of, Assertion, Scope, is_in}
use Rattle.source.specs.Proofs.{Tree, Trees, node, none, some, taken_by}
use Rattle.taking.specs.Names.{Map, label_in, float_in}
use Rattle.taking.specs.Says.{both}
use Rattle.taking.specs.Settings.{is_float}
use Rattle.taking.specs.Lengths.{how_many, TakesEnough, TakeEnough}
use Rattle.taking.specs.Listings.{joined, own_step, step_in, premise_labels, listing, listings}
use Rattle.taking.specs.Reasons.{Choice, is_left_out, labels_cited, labels_cited_by_each}
use Rattle.taking.proofs.Values.{mapped}
use Rattle.gathering.specs.Outcomes.{HasStepsFor}

-- ---- steps

by_premise : (place j : Option ℕ) (label : Option Word) → is_some place ≡ true → is_some (own_step place j label) ≡ true
by_premise None j label h = absurd cc
by_premise (Some n) j label h = refl

by_float : (place j : Option ℕ) (label : Option Word) → is_some j ≡ true → is_some (own_step place j label) ≡ true
by_float (Some n) j label h = refl
by_float None None label h = absurd cc
by_float None (Some j) label h = refl

by_label : (place j : Option ℕ) (label : Option Word) → is_some label ≡ true → is_some (own_step place j label) ≡ true
by_label (Some n) j label h = refl
by_label None (Some j) label h = refl
by_label None None None h = absurd cc
by_label None None (Some w) h = refl

-- a label of active hypotheses is that of a $e, or a $f with a place
of_hypothesis : (m : Map) (w : Word) (hs : List Hypothesis)
    → AllByRecursion (λ h. IsTrue (is_float h) → IsTrue (is_some (float_in m (label_of h)))) hs
    → list_any (λ h. bytes_eq w (label_of h)) hs ≡ true
    → (list_any (bytes_eq w) (premise_labels hs) ≡ true) ⊎ (is_some (float_in m w) ≡ true)
of_hypothesis m w [] a h = absurd cc
of_hypothesis m w (typing label c v ∷ hs) a h =
    elim (or_cases (bytes_eq w label) _ h) [
      | inl here ↦
          inr (subst (λ (l : Word). is_some (float_in m l) ≡ true) (sym (same_bytes w label here)) (a.0 refl))
      | inr later ↦ of_hypothesis m w hs a.1 later
    ]
of_hypothesis m w (premise label ws ∷ hs) a h =
    elim (or_cases (bytes_eq w label) _ h) [
      | inl here ↦ inl (or_left (bytes_eq w label) _ here)
      | inr later ↦
          elim (of_hypothesis m w hs a.1 later) [
            | inl place ↦ inl (or_right (bytes_eq w label) _ place)
            | inr float ↦ inr float
          ]
    ]

-- a chosen label of assertions has one in the library
of_assertion : (m : Map) (chosen : List Word) (w : Word) (n : ℕ) (xs : List Assertion)
    → AllByRecursion (λ y. IsTrue (is_in chosen y.label) → IsTrue (is_some (label_in m y.label))) xs
    → list_any (λ y. bytes_eq w y.label) (take n xs) ≡ true → is_in chosen w ≡ true → is_some (label_in m w) ≡ true
of_assertion m chosen w zero xs a h c = absurd cc
of_assertion m chosen w (suc n) [] a h c = absurd cc
of_assertion m chosen w (suc n) (x ∷ xs) a h c =
    elim (or_cases (bytes_eq w x.label) _ h) [
      | inl here ↦
          let same = same_bytes w x.label here in
          subst (λ (l : Word). is_some (label_in m l) ≡ true) (sym same)
          (a.0 (subst (λ (l : Word). is_in chosen l ≡ true) same c))
      | inr later ↦ of_assertion m chosen w n xs a.1 later c
    ]

-- ---- trees

joined_there : (o : Option (List Hypothesis)) (ps : Option (List (List Step))) (own : Option Step) (hs : List Hypothesis)
    → o ≡ Some hs → is_some ps ≡ true → is_some own ≡ true → is_some (joined o ps own) ≡ true
joined_there None ps own hs e f g = absurd cc
joined_there (Some hs') None own hs e f g = absurd cc
joined_there (Some hs') (Some parts) None hs e f g = absurd cc
joined_there (Some hs') (Some parts) (Some step) hs e f g = refl

both_there : (o : Option (List Step)) (ps : Option (List (List Step))) → is_some o ≡ true → is_some ps ≡ true → is_some (both o ps) ≡ true
both_there None ps e f = absurd cc
both_there (Some x) None e f = absurd cc
both_there (Some x) (Some xs) e f = refl

module _ (m : Map) (choice : Choice) (s : Scope) (x : Assertion) (n : ℕ) (known : HasStepsFor m choice s x) where
  -- what a label names has a step, unless it isn't chosen
  has_step : (w : Word) (hs : List Hypothesis) → taken_by (take n s.assertions) x.active w ≡ Some hs
      → is_left_out (take n s.assertions) choice.chosen w ≡ false → is_some (step_in m x.active w) ≡ true
  has_step w hs takes chosen =
      let place = place_of (bytes_eq w) (premise_labels x.active) in
      elim (cases_Bool (list_any (λ h. bytes_eq w (label_of h)) x.active)) [
        | inl active ↦
            elim (of_hypothesis m w x.active (recursion_from_All _ x.active known.floats) active) [
              | inl premise-there ↦
                  by_premise place (float_in m w) (label_in m w)
                  (is_some-place_of (bytes_eq w) (premise_labels x.active) ∙ premise-there)
              | inr float-there ↦ by_float place (float_in m w) (label_in m w) float-there
            ]
        | inr other ↦
            let f = mapped (λ (a : Assertion). a.hypotheses) (find (λ a. bytes_eq w a.label) (take n s.assertions)) hs
            (sym (cond-false _ (Some []) _ other) ∙ takes) in
            let asserted = found_is_any (λ (a : Assertion). bytes_eq w a.label) (take n s.assertions) f.0 f.1 in
            let kept : is_in choice.chosen w ≡ true =
            not-false (is_in choice.chosen w) (ap (λ b. b && not (is_in choice.chosen w)) (sym asserted) ∙ chosen) in
            by_label place (float_in m w) (label_in m w)
            (of_assertion m choice.chosen w n s.assertions (recursion_from_All _ s.assertions known.labels) asserted kept)
      ]

  mutual
    pub listing_there : (t : Tree) → TakesEnough (take n s.assertions) x.active t
        → list_any (is_left_out (take n s.assertions) choice.chosen) (labels_cited t) ≡ false
        → is_some (listing m (take n s.assertions) x.active t) ≡ true
    listing_there (node w trees) enough cites =
        let parts = or_parts (is_left_out (take n s.assertions) choice.chosen w) _ cites in
        let takes = mapped length (taken_by (take n s.assertions) x.active w) (how_many trees) enough.0 in
        joined_there (taken_by (take n s.assertions) x.active w) (listings m (take n s.assertions) x.active trees)
        (step_in m x.active w) takes.0 takes.1 (listings_there trees enough.1 parts.1) (has_step w takes.0 takes.1 parts.0)

    listings_there : (ts : Trees) → TakeEnough (take n s.assertions) x.active ts
        → list_any (is_left_out (take n s.assertions) choice.chosen) (labels_cited_by_each ts) ≡ false
        → is_some (listings m (take n s.assertions) x.active ts) ≡ true
    listings_there none enough cites = refl
    listings_there (some t ts) enough cites =
        let parts = or_parts _ _ (sym (list_any-append (is_left_out (take n s.assertions) choice.chosen) (labels_cited t)
        (labels_cited_by_each ts)) ∙ cites) in
        both_there (listing m (take n s.assertions) x.active t) (listings m (take n s.assertions) x.active ts)
        (listing_there t enough.0 parts.0) (listings_there ts enough.1 parts.1)
