-- What is taken of a source has no more constants and `$f` than a library.
use Rattle.std.proofs.Common.{◌≡◌, ◌∙◌, ◌≤◌, Bool, true, false, List, [], ◌∷◌, length, filter, map, refl, sym, ap, subst}
use Rattle.std.specs.Prelude.{if◌then◌else◌}
use Rattle.std.specs.List.{list_any}
use Rattle.mmsyntax.specs.Layout.{HasSpelling}
use Rattle.mmsyntax.specs.declared.limits.TheConstants.{MOST_DECLARED}
use Rattle.mmsyntax.proofs.Canonical.{sound_tables}
use Rattle.mmsyntax.proofs.Declarable.{declarable}
use Rattle.source.specs.Scopes.{Assertion, Scope, is_in}
use Rattle.source.specs.Flags.{kept, kept_at}
use Rattle.taking.specs.Names.{is_symbol_of, has_float_labelled}
use Rattle.choosing.specs.declared.wish.Wish.{Wish}
use Rattle.intake.specs.declared.taken.Taken.{Taken}
use Rattle.intake.specs.Intakes.{IsLibraryOf}
use Rattle.pasting.specs.Views.{IsNarrow}

kept_one : {A : Type 0} (b : Bool) (x : A) (xs ys : List A) → xs ≡ ys → kept_at b x xs ≡ (if b then x ∷ ys else ys)
kept_one true x xs ys e = ap (λ zs. x ∷ zs) e
kept_one false x xs ys e = e

-- flags of a test keep what passes
kept_filter : {A : Type 0} (test : A → Bool) (xs : List A) → kept (map test xs) xs ≡ filter test xs
kept_filter test [] = refl
kept_filter test (x ∷ xs) = kept_one (test x) x (kept (map test xs) xs) (filter test xs) (kept_filter test xs)

pub narrow_taken : (s : Scope) (w : Wish) (t : Taken) → IsLibraryOf s w t → HasSpelling t.database → IsNarrow s t.chosen.items
narrow_taken s w t library spelled =
    let places = library.taken.takes.has_places in
    let sound = sound_tables t.database.prelude (declarable t.database spelled).prelude in
    let chosen = λ (x : Assertion). is_in library.taken.choice.chosen x.label in
    let are : kept t.chosen.items s.assertions ≡ filter chosen s.assertions =
    subst (λ fs. kept fs s.assertions ≡ filter chosen s.assertions) library.chosen_are (kept_filter chosen s.assertions) in
    record {
      constants =
          subst (λ (xs : List Assertion). length (filter (λ v. list_any (is_symbol_of v) xs) s.constants) ≤ MOST_DECLARED) (sym are)
          (subst (λ n. n ≤ MOST_DECLARED) (places.as_many_constants ∙ ap length places.constants) sound.constants_fit);
      floats =
          subst (λ (xs : List Assertion). length (filter (λ v. list_any (has_float_labelled v) xs) s.labels) ≤ MOST_DECLARED) (sym are)
          (subst (λ n. n ≤ MOST_DECLARED) (places.as_many_floats ∙ ap length places.floats) sound.floats_fit);
    }
