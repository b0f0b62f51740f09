-- What a label of a proof names, as the mandatory hypotheses and the labels of assertions tell it.
use Rattle.std.proofs.Common.{◌≡◌, ℕ, Bool, true, false, cond, List, [], ◌∷◌, take, Option, Some, None, refl, sym, ap, subst, ◌∙◌, inl, inr}
use Rattle.std.specs.Prelude.{◌||◌, slice_get, All, is_some, filter}
use Rattle.std.specs.List.{AllByRecursion, list_any}
use Rattle.std.specs.Str.{bytes_eq}
use Rattle.std.proofs.lemmas.Bool.{cases_Bool}
use Rattle.std.proofs.lemmas.List.Elements.{recursion_from_All}
use Rattle.mmtext.specs.Words.{Word}
use Rattle.mmsyntax.specs.Tables.{place_of}
use Rattle.mmsyntax.proofs.Distinct.{is_some-place_of}
use Rattle.mmsyntax.proofs.Names.{same_bytes}
use Rattle.source.specs.Scopes.{Hypothesis, typing, premise, label_of, Assertion, Scope, is_mandatory}
use Rattle.source.specs.Whole.{IsWhole, IsAssertionWhole}
use Rattle.taking.specs.Listings.{premise_labels}
use Rattle.taking.proofs.Listed.{all_at}
use Rattle.prooftrees.specs.declared.roles.Role.{Role}
use Rattle.prooftrees.specs.Names.{IsKnown, IsOther, AreEnough, labelled}
use Rattle.prooftrees.specs.Roles.{role_in, is_label_of, role_of}
use Rattle.std.proofs.lemmas.Bool.{or_right}
use Rattle.source.proofs.Asked.{whole_at}
use Rattle.prooftrees.proofs.Found.{found_in_front}
use Rattle.prooftrees.proofs.Named.{or_both, neither_in, known_assertion}

-- ---- hypotheses of which each $e is kept

module _ (p : Hypothesis → Bool) (keeps : (l : Word) (ws : List Word) → p (premise l ws) ≡ true) where
  premises_kept : (hs : List Hypothesis) → premise_labels (filter p hs) ≡ premise_labels hs
  premises_kept [] = refl
  premises_kept (typing l c v ∷ hs) =
      let rest = premises_kept hs in
      elim (p (typing l c v)) as (λ b. premise_labels (cond b (typing l c v ∷ filter p hs) (filter p hs)) ≡ premise_labels hs) [
        | true ↦ rest
        | false ↦ rest
      ]
  premises_kept (premise l ws ∷ hs) =
      ap (λ b. premise_labels (cond b (premise l ws ∷ filter p hs) (filter p hs))) (keeps l ws) ∙ ap (λ ls. l ∷ ls) (premises_kept hs)

label_kept : (p : Hypothesis → Bool) (hs : List Hypothesis) (w : Word) → is_label_of (filter p hs) w ≡ true → is_label_of hs w ≡ true
label_kept p [] w = λ e. e
label_kept p (h ∷ hs) w =
    let rest = label_kept p hs w in
    elim (p h) as (λ b. is_label_of (cond b (h ∷ filter p hs) (filter p hs)) w ≡ true
    → (bytes_eq w (label_of h) || is_label_of hs w) ≡ true) [
      | true ↦ λ e. or_both (bytes_eq w (label_of h)) (is_label_of (filter p hs) w) (is_label_of hs w) rest e
      | false ↦ λ e. or_right (bytes_eq w (label_of h)) (is_label_of hs w) (rest e)
    ]

role_more : (a b : Bool) (o : Option ℕ) (role : Role) → (a ≡ true → b ≡ true) → role_in a o ≡ Some role → role_in b o ≡ Some role
role_more a b (Some n) role f h = h
role_more true b None role f h = ap (λ z. role_in z None) (f refl) ∙ h
role_more false b None role f h = absurd cc

-- ---- labels of assertions

apart_from : (ys : List Assertion) (hs : List Hypothesis) (w : Word)
    → AllByRecursion (λ h. list_any (λ (y : Assertion). bytes_eq (label_of h) y.label) ys ≡ false) hs → is_label_of hs w ≡ true
    → list_any (λ (y : Assertion). bytes_eq w y.label) ys ≡ false
apart_from ys [] w a e = absurd cc
apart_from ys (h ∷ hs) w a e =
    elim (cases_Bool (bytes_eq w (label_of h))) [
      | inl same ↦
          subst (λ (u : Word). list_any (λ (y : Assertion). bytes_eq u y.label) ys ≡ false) (sym (same_bytes w (label_of h) same)) a.0
      | inr differs ↦ apart_from ys hs w a.1 (sym (ap (λ b. b || is_label_of hs w) differs) ∙ e)
    ]

-- ---- the proof of an assertion of a source

module _ (s : Scope) (place : ℕ) (x : Assertion) (w : Word) (whole : IsWhole s) (at : slice_get s.assertions place ≡ Some x) where
  here : IsAssertionWhole s (take place s.assertions) x
  here = whole_at s place x whole at

  same_premises : premise_labels x.hypotheses ≡ premise_labels x.active
  same_premises =
      sym (ap premise_labels here.mandatory) ∙ premises_kept (is_mandatory x.active x.statement) (λ l ws. refl) x.active

  -- a mandatory hypothesis has the same role among all that are active
  pub role_kept : (role : Role) → role_of x.hypotheses w ≡ Some role → role_of x.active w ≡ Some role
  role_kept role h =
      role_more (is_label_of x.hypotheses w) (is_label_of x.active w) (place_of (bytes_eq w) (premise_labels x.active)) role
      (λ e. label_kept (is_mandatory x.active x.statement) x.active w (ap (λ hs. is_label_of hs w) here.mandatory ∙ e))
      (ap (λ ls. role_in (is_label_of x.hypotheses w) (place_of (bytes_eq w) ls)) (sym same_premises) ∙ h)

  no_premise : role_of x.hypotheses w ≡ None → place_of (bytes_eq w) (premise_labels x.active) ≡ None
  no_premise h =
      ap (place_of (bytes_eq w)) (sym same_premises)
      ∙ (neither_in (is_label_of x.hypotheses w) (place_of (bytes_eq w) (premise_labels x.hypotheses)) h).1

  role_is : (b : Bool) → role_of x.hypotheses w ≡ None → is_label_of x.active w ≡ b → role_of x.active w ≡ role_in b None
  role_is b h e =
      ap (λ z. role_in z (place_of (bytes_eq w) (premise_labels x.active))) e ∙ ap (role_in b) (no_premise h)

  -- the label of an assertion is that of no hypothesis
  pub role_of_assertion : (k : ℕ) → role_of x.hypotheses w ≡ None → Some k ≡ place_of (λ a. bytes_eq w a.label) s.assertions
      → role_of x.active w ≡ None
  role_of_assertion k h found =
      let own = all_at (λ (y : Assertion). All (λ h. list_any (λ y. bytes_eq (label_of h) y.label) s.assertions ≡ false) y.active)
      s.assertions place x
      (recursion_from_All (λ (y : Assertion). All (λ h. list_any (λ y. bytes_eq (label_of h) y.label) s.assertions ≡ false) y.active)
      s.assertions whole.apart)
      at in
      elim (cases_Bool (is_label_of x.active w)) [
        | inl there ↦
            let none =
            apart_from s.assertions x.active w
            (recursion_from_All (λ h. list_any (λ (y : Assertion). bytes_eq (label_of h) y.label) s.assertions ≡ false) x.active own)
            there in
            let some = ap is_some found ∙ is_some-place_of (λ (a : Assertion). bytes_eq w a.label) s.assertions in
            absurd cc
        | inr not_there ↦ role_is false h not_there
      ]

  -- a label that names something, and isn't that of a mandatory hypothesis, is that of an assertion in front, or of another $f
  pub is_other : role_of x.hypotheses w ≡ None → IsKnown (take place s.assertions) x.active w
      → IsOther (take place s.assertions) x.active w
  is_other h known = record {
    cited = λ some.
        let found = found_in_front (λ (a : Assertion). bytes_eq w a.label) s.assertions place some in
        role_of_assertion found.0 h (sym found.1.place_is);
    float = λ none.
        elim (cases_Bool (is_label_of x.active w)) [
          | inl there ↦ role_is true h there
          | inr not_there ↦
              let some = known_assertion (take place s.assertions) x.active w (role_is false h not_there) known in
              let no : is_some (labelled (take place s.assertions) w) ≡ false = ap is_some none in
              absurd cc
        ];
  }

-- roles of the mandatory ones are enough
pub mandatory_enough : (s : Scope) (place : ℕ) (x : Assertion) (roles : Word → Option Role) → IsWhole s
    → slice_get s.assertions place ≡ Some x → ((w : Word) → roles w ≡ role_of x.hypotheses w)
    → AreEnough (take place s.assertions) x.active roles
mandatory_enough s place x roles whole at are = record {
  own = λ w role h. role_kept s place x w whole at role (sym (are w) ∙ h);
  others = λ w h known. is_other s place x w whole at (sym (are w) ∙ h) known;
}
