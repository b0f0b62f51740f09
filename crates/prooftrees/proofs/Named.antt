-- What the labels of a proof name, one after the other.
use Rattle.std.proofs.Common.{◌≡◌, ℕ, ◌+◌, ◌<◌, Bool, true, false, cond, List, [], ◌∷◌, ◌++◌, length, map, take, Option, Some, None}
use Rattle.std.proofs.Common.{refl, sym, ap, subst, ◌∙◌}
use Rattle.std.specs.Prelude.{◌||◌, slice_index_or, find, is_some}
use Rattle.std.specs.List.{list_any}
use Rattle.std.specs.Option.{option_map}
use Rattle.std.specs.Str.{bytes_eq}
use Rattle.std.proofs.lemmas.List.{map-append, take_more}
use Rattle.mmtext.specs.Words.{Word}
use Rattle.mmsyntax.specs.Tables.{place_of}
use Rattle.mmsyntax.proofs.Distinct.{is_some-place_of}
use Rattle.source.specs.Scopes.{Hypothesis, typing, premise, Assertion}
use Rattle.source.specs.Proofs.{taken_by}
use Rattle.taking.specs.declared.named.Named.{Named}
use Rattle.taking.specs.Names.{Map, float_in, label_in}
use Rattle.taking.specs.Listings.{premise_labels, step_in, own_step}
use Rattle.taking.specs.Settings.{AreNamed, is_float}
use Rattle.prooftrees.specs.declared.roles.Role.{Role}
use Rattle.prooftrees.specs.declared.roles.Role.TheVariants.{Float, Premise}
use Rattle.prooftrees.specs.Roles.{role_in, is_label_of, role_of, number_of}
use Rattle.prooftrees.specs.Names.{IsKnown, IsNamed}
use Rattle.std.proofs.lemmas.Bool.{or_right}

pub or_both : (a b c : Bool) → (b ≡ true → c ≡ true) → (a || b) ≡ true → (a || c) ≡ true
or_both true b c f h = refl
or_both false b c f h = f h

-- ---- roles

pub premise_in : (hs : List Hypothesis) (w : Word) → list_any (bytes_eq w) (premise_labels hs) ≡ true → is_label_of hs w ≡ true
premise_in [] w h = h
premise_in (typing l c v ∷ hs) w h = or_right (bytes_eq w l) (is_label_of hs w) (premise_in hs w h)
premise_in (premise l ws ∷ hs) w h =
    or_both (bytes_eq w l) (list_any (bytes_eq w) (premise_labels hs)) (is_label_of hs w) (premise_in hs w) h

number_in : (a : Bool) (p : Option ℕ) (role : Role) → role_in a p ≡ Some role → p ≡ number_of role
number_in a (Some n) role h = let e : Premise n ≡ role = cc in ap number_of e
number_in true None role h = let e : Float ≡ role = cc in ap number_of e
number_in false None role h = absurd cc

active_in : (a : Bool) (p : Option ℕ) (role : Role) → role_in a p ≡ Some role → (is_some p ≡ true → a ≡ true) → a ≡ true
active_in a (Some n) role h f = f refl
active_in true None role h f = refl
active_in false None role h f = absurd cc

pub neither_in : (a : Bool) (p : Option ℕ) → role_in a p ≡ None → (a ≡ false) × (p ≡ None)
neither_in a (Some n) h = absurd cc
neither_in true None h = absurd cc
neither_in false None h = (refl, refl)

-- ---- one label

module _ (earlier : List Assertion) (active : List Hypothesis) (w : Word) where
  taken_is : (b : Bool) → is_label_of active w ≡ b
      → taken_by earlier active w ≡ cond b (Some []) (option_map (λ a. a.hypotheses) (find (λ a. bytes_eq w a.label) earlier))
  taken_is b e = ap (λ z. cond z (Some []) (option_map (λ (a : Assertion). a.hypotheses) (find (λ a. bytes_eq w a.label) earlier))) e

  some_under : (o : Option Assertion) → is_some (option_map (λ a. a.hypotheses) o) ≡ true → is_some o ≡ true
  some_under None h = h
  some_under (Some a) h = refl

  pub known_assertion : role_of active w ≡ None → IsKnown earlier active w → is_some (find (λ a. bytes_eq w a.label) earlier) ≡ true
  known_assertion is known =
      let none = neither_in (is_label_of active w) (place_of (bytes_eq w) (premise_labels active)) is in
      some_under (find (λ a. bytes_eq w a.label) earlier) (sym (ap is_some (taken_is false none.0)) ∙ known)

  module _ (m : Map) where
    -- that of a hypothesis takes nothing, and its step is that of its role
    pub named_hypothesis : (role : Role) (named : Named) → role_of active w ≡ Some role → named.floats ≡ []
        → named.step ≡ own_step (number_of role) (float_in m w) (label_in m w) → IsNamed m earlier active w named
    named_hypothesis role named is floats step =
        let p = place_of (bytes_eq w) (premise_labels active) in
        let there : is_label_of active w ≡ true =
        active_in (is_label_of active w) p role is
        (λ h. premise_in active w (sym (is_some-place_of (bytes_eq w) (premise_labels active)) ∙ h)) in
        record {
          floats_are = ap (option_map (map is_float)) (taken_is true there) ∙ ap Some (sym floats);
          step_is = ap (λ o. own_step o (float_in m w) (label_in m w)) (number_in (is_label_of active w) p role is) ∙ sym step;
        }

    same_floats : (o : Option Assertion) → option_map (map is_float) (option_map (λ a. a.hypotheses) o)
        ≡ option_map (λ a. map is_float a.hypotheses) o
    same_floats None = refl
    same_floats (Some a) = refl

    -- another is that of an assertion
    pub named_assertion : (named : Named) → role_of active w ≡ None
        → option_map (λ a. map is_float a.hypotheses) (find (λ a. bytes_eq w a.label) earlier) ≡ Some named.floats
        → named.step ≡ own_step None (float_in m w) (label_in m w) → IsNamed m earlier active w named
    named_assertion named is floats step =
        let none = neither_in (is_label_of active w) (place_of (bytes_eq w) (premise_labels active)) is in
        record {
          floats_are = ap (option_map (map is_float)) (taken_is false none.0)
              ∙ same_floats (find (λ a. bytes_eq w a.label) earlier)
              ∙ floats;
          step_is = ap (λ o. own_step o (float_in m w) (label_in m w)) none.1 ∙ sym step;
        }

-- ---- labels one after the other

-- this is what labels name
abbrev pub NamesOf : Map → List Assertion → List Hypothesis → List Word → List Named → Type 0
NamesOf m earlier active labels named =
    AreNamed (record { places = m; earlier = earlier; active = active; labels = labels }) named

module _ (m : Map) (earlier : List Assertion) (active : List Hypothesis) where
  pub none_named : NamesOf m earlier active [] []
  none_named = record { floats = refl; steps = refl }

  pub one_named : (ws : List Word) (w : Word) (named : List Named) (n : Named) → IsNamed m earlier active w n
      → NamesOf m earlier active ws named → NamesOf m earlier active (ws ++ w ∷ []) (named ++ n ∷ [])
  one_named ws w named n one are =
      let F : Word → Option (List Bool) = λ u. option_map (map is_float) (taken_by earlier active u) in
      record {
        floats = map-append F ws (w ∷ [])
            ∙ ap (λ xs. xs ++ F w ∷ []) are.floats
            ∙ ap (λ x. map (λ (k : Named). Some k.floats) named ++ x ∷ []) one.floats_are
            ∙ sym (map-append (λ (k : Named). Some k.floats) named (n ∷ []));
        steps = map-append (step_in m active) ws (w ∷ [])
            ∙ ap (λ xs. xs ++ step_in m active w ∷ []) are.steps
            ∙ ap (λ x. map (λ (k : Named). k.step) named ++ x ∷ []) one.step_is
            ∙ sym (map-append (λ (k : Named). k.step) named (n ∷ []));
      }

  -- one more label of a list
  pub next_named : (ws : List Word) (i : ℕ) (named : List Named) (n : Named) → i < length ws
      → IsNamed m earlier active (slice_index_or ws i []) n → NamesOf m earlier active (take i ws) named
      → NamesOf m earlier active (take (i + 1) ws) (named ++ n ∷ [])
  next_named ws i named n h one are =
      subst (λ (us : List Word). NamesOf m earlier active us (named ++ n ∷ [])) (sym (take_more ws i [] h))
      (one_named (take i ws) (slice_index_or ws i []) named n one are)
