-- Assertions that live are known by their labels.
use Rattle.std.proofs.Common.{◌≡◌, ◌∙◌, ℕ, List, [], ◌∷◌, sym, ap, subst, inl, inr, refl, length, get_or, ◌<◌}
use Rattle.std.specs.Prelude.{Some, None, find}
use Rattle.std.specs.List.{AllByRecursion}
use Rattle.std.specs.Option.{option_map}
use Rattle.std.specs.Str.{bytes_eq}
use Rattle.std.proofs.lemmas.Bool.{cases_Bool, cond-true, cond-false}
use Rattle.std.proofs.lemmas.Option.{same_Some}
use Rattle.std.specs.Borrow.{Bor}
use Rattle.std.proofs.lemmas.List.{get_or_default}
use Rattle.library.proofs.Filtered.{contains_mapped}
use Rattle.std.proofs.lemmas.List.Elements.{recursion_from_All}
use Rattle.mmtext.specs.Words.{Word}
use Rattle.mmsyntax.proofs.Names.{same_bytes}
use Rattle.giving.specs.Staying.{Change}
use Rattle.sourceediting.specs.Following.{Followed}
use Rattle.sourceediting.specs.Refusals.{IsKnownAs}
use Rattle.sourceediting.specs.declared.following.Followed.{Followed as KeptAssertion}
use Rattle.sourceediting.specs.Views.{seen_followed, seen_living, AreKnown}

abbrev is_known : List Followed → Change → Type 0
is_known living c = IsKnownAs living c.1 (Some c.0)

module _ (living : List Followed) where
  abbrev met : Change → Type 0
  met c = is_known living c

  found_at : (l w : Word) (cs : List Change) → AllByRecursion met cs
      → Some w ≡ option_map (λ c. c.1) (find (λ c. bytes_eq l c.0) cs) → IsKnownAs living w (Some l)
  found_at l w [] all e = absurd cc
  found_at l w (c ∷ cs) all e =
      elim (cases_Bool (bytes_eq l c.0)) [
        | inl y ↦
            let is : Some w ≡ Some c.1 =
            e ∙ ap (option_map (λ c. c.1)) (cond-true (bytes_eq l c.0) (Some c) (find (λ c. bytes_eq l c.0) cs) y) in
            let word : c.1 ≡ w = sym (same_Some w c.1 is) in
            let label : c.0 ≡ l = sym (same_bytes l c.0 y) in
            subst (λ v. IsKnownAs living v (Some l)) word (subst (λ v. IsKnownAs living c.1 (Some v)) label all.0)
        | inr n ↦
            let rest = e ∙ ap (option_map (λ c. c.1)) (cond-false (bytes_eq l c.0) (Some c) (find (λ c. bytes_eq l c.0) cs) n) in
            found_at l w cs all.1 rest
      ]

  -- one that is found under its label in the source
  pub known_at : (l w : Word) (cs : List Change) → AreKnown living cs
      → Some w ≡ option_map (λ c. c.1) (find (λ c. bytes_eq l c.0) cs) → IsKnownAs living w (Some l)
  known_at l w cs all e = found_at l w cs (recursion_from_All met cs all) e

-- one that was added is known by its label now
pub added_known : (xs : List KeptAssertion) (k : ℕ) (d : KeptAssertion) → k < length xs → (get_or xs k d).source ≡ None
    → IsKnownAs (seen_living xs) (get_or xs k d).now.now None
added_known xs k d low none =
    let x = get_or xs k d in record {
      followed = seen_followed x;
      lives = contains_mapped seen_followed xs x (k, low, get_or_default xs k x d low);
      now = refl;
      in_source = ap (option_map (λ (w : Bor (List ℕ)). w.now)) none;
    }

-- by whatever its label is
pub known_by : (living : List Followed) (source w v : Word) → IsKnownAs living w (Some source) → v ≡ w → IsKnownAs living v (Some source)
known_by living source w v known is = subst (λ u. IsKnownAs living u (Some source)) (sym is) known
