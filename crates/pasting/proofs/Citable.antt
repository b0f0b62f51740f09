-- What scripts add, by its label; the frames of what a proof may cite, and the roles of all hypotheses that are active.
use Rattle.std.proofs.Common.{◌≡◌, ◌∙◌, ℕ, suc, Bool, true, false, cond, List, [], ◌∷◌, ◌++◌, map, Option, Some, None, refl, sym, ap}
use Rattle.std.specs.Prelude.{slice_get, is_some}
use Rattle.std.specs.Option.{option_map, option_and_then, option_or}
use Rattle.std.specs.Str.{bytes_eq}
use Rattle.std.proofs.lemmas.List.Folds.{find-append}
use Rattle.std.proofs.lemmas.Option.{slice_get-map}
use Rattle.mmtext.specs.Words.{Word}
use Rattle.mmsyntax.specs.Tables.{Tables, place_of}
use Rattle.mmsyntax.proofs.FirstPlace.{got_later}
use Rattle.source.specs.Scopes.{Assertion, Hypothesis}
use Rattle.taking.specs.Names.{Map}
use Rattle.prooftrees.specs.declared.roles.Role.{Role}
use Rattle.prooftrees.specs.Names.{AreEnough, AreFrames, labelled}
use Rattle.prooftrees.specs.Roles.{role_of}
use Rattle.prooftrees.proofs.Named.{known_assertion}
use Rattle.pasting.specs.Additions.{Addition, theorem_of}
use Rattle.pasting.specs.Views.{AreKnown, at_label, flags_in, flags_of, seen_addition}
use Rattle.pasting.specs.declared.additions.Additions.{Additions}

-- ---- what is added

by_test : (t : Bool) (x : Assertion) (xs : List Assertion) (o : Option ℕ) (f : Option Assertion) → option_and_then (slice_get xs) o ≡ f
    → option_and_then (slice_get (x ∷ xs)) (cond t (Some 0) (option_map (λ n. suc n) o)) ≡ cond t (Some x) f
by_test true x xs o f e = refl
by_test false x xs o f e = got_later x xs o ∙ e

first_labelled : (xs : List Assertion) (w : Word) → at_label (map (λ x. x.label) xs) xs w ≡ labelled xs w
first_labelled [] w = refl
first_labelled (x ∷ xs) w =
    by_test (bytes_eq w x.label) x xs (place_of (bytes_eq w) (map (λ x. x.label) xs)) (labelled xs w) (first_labelled xs w)

mapped_at : {A B : Type 0} (f : A → B) (xs : List A) (o : Option ℕ)
    → option_and_then (slice_get (map f xs)) o ≡ option_map f (option_and_then (slice_get xs) o)
mapped_at f xs None = refl
mapped_at f xs (Some k) = slice_get-map f xs k

-- the first with a label, as the code has it
pub added_is : (m : Map) (t : Tables) (xs : List Assertion) (a : Additions) (w : Word) → AreKnown m t xs a → (o : Option Addition)
    → o ≡ at_label a.labels (map seen_addition a.added.items) w → labelled xs w ≡ option_map (theorem_of m t) o
added_is m t xs a w known o found =
    sym (ap (option_map (theorem_of m t)) found
    ∙ sym (mapped_at (theorem_of m t) (map seen_addition a.added.items) (place_of (bytes_eq w) a.labels))
    ∙ ap (λ ys. at_label a.labels ys w) known.added.theorems_are
    ∙ ap (λ ls. at_label ls xs w) known.added.labels_are
    ∙ first_labelled xs w)

-- ---- frames

mapped_or : (o p : Option Assertion) → option_or (option_map flags_of o) (option_map flags_of p) ≡ option_map flags_of (option_or o p)
mapped_or None p = refl
mapped_or (Some x) p = refl

-- those of the source, and else of what is added
pub frames_are : (m : Map) (t : Tables) (ys xs : List Assertion) (a : Additions) → AreKnown m t xs a → AreFrames (ys ++ xs) (flags_in ys a)
frames_are m t ys xs a known = λ w.
    ap (λ ls. option_or (option_map flags_of (labelled ys w)) (at_label ls a.flags.items w)) known.added.labels_are
    ∙ ap (λ fs. option_or (option_map flags_of (labelled ys w)) (at_label (map (λ (x : Assertion). x.label) xs) fs w))
    known.added.flags_are
    ∙ ap (option_or (option_map flags_of (labelled ys w)))
    (mapped_at flags_of xs (place_of (bytes_eq w) (map (λ (x : Assertion). x.label) xs)) ∙ ap (option_map flags_of) (first_labelled xs w))
    ∙ mapped_or (labelled ys w) (labelled xs w)
    ∙ ap (option_map flags_of) (sym (find-append (λ (x : Assertion). bytes_eq w x.label) ys xs))

-- ---- roles

-- those of all hypotheses that are active are enough
pub all_enough : (earlier : List Assertion) (active : List Hypothesis) (roles : Word → Option Role)
    → ((w : Word) → roles w ≡ role_of active w) → AreEnough earlier active roles
all_enough earlier active roles are = record {
  own = λ w role h. sym (are w) ∙ h;
  others = λ w h known. record {
    cited = λ some. sym (are w) ∙ h;
    float = λ none.
        let some = known_assertion earlier active w (sym (are w) ∙ h) known in
        let no : is_some (labelled earlier w) ≡ false = ap is_some none in
        absurd cc;
  };
}

-- of the assertion at a place
pub active_is : (xs : List Assertion) (place : ℕ) (x : Assertion) (hs : List Hypothesis) → slice_get xs place ≡ Some x
    → option_map (λ a. a.active) (slice_get xs place) ≡ Some hs → x.active ≡ hs
active_is xs place x hs at h = let e : Some x.active ≡ Some hs = sym (ap (option_map (λ (a : Assertion). a.active)) at) ∙ h in cc
