-- The label in a library of what stands there at the place of a label.
use Rattle.std.proofs.Common.{◌≡◌, ◌∙◌, ℕ, suc, true, false, cond, List, [], ◌∷◌, map, Option, Some, None, refl, sym, ap, inl, inr}
use Rattle.std.specs.Prelude.{slice_get, find, is_some, if◌then◌else◌}
use Rattle.std.specs.Option.{option_map, option_and_then, option_or}
use Rattle.std.specs.Str.{bytes_eq}
use Rattle.std.proofs.lemmas.Bool.{cases_Bool}
use Rattle.std.proofs.lemmas.List.Folds.{find-append}
use Rattle.std.proofs.lemmas.Option.{slice_get-map}
use Rattle.mmtext.specs.Words.{Word}
use Rattle.mmsyntax.specs.Tables.{Contents, place_of}
use Rattle.mmsyntax.specs.declared.statement.Assertion.{Assertion as Unit'}
use Rattle.mmsyntax.proofs.Names.{same_bytes}
use Rattle.mmsyntax.proofs.FirstPlace.{found_in_zip}
use Rattle.mmsyntax.proofs.Options.{mapped_some}
use Rattle.taking.specs.Names.{Map, label_in}
use Rattle.pasting.specs.Places.{places_of}
use Rattle.pasting.specs.Pasted.{with_labels}

-- ---- pairs of two lists

-- ---- labels

module _ (floats labels : List Word) (db : Contents) (w : Word) where
  names : List Word
  names = map (λ (a : Unit'). a.label) db.assertions

  label_by_place : (o : Option ℕ) → place_of (bytes_eq w) labels ≡ o
      → label_in (places_of floats labels db) w ≡ option_and_then (slice_get names) o
  unfolding names
  label_by_place o e = found_in_zip (bytes_eq w) labels names ∙ ap (option_and_then (slice_get names)) e

  pub label_nowhere : place_of (bytes_eq w) labels ≡ None → None ≡ label_in (places_of floats labels db) w
  label_nowhere e = sym (label_by_place None e)

  pub label_at : (k : ℕ) (o : Option Unit') → place_of (bytes_eq w) labels ≡ Some k → o ≡ slice_get db.assertions k
      → option_map (λ a. a.label) o ≡ label_in (places_of floats labels db) w
  unfolding names
  label_at k o e at =
      ap (option_map (λ (a : Unit'). a.label)) at
      ∙ sym (slice_get-map (λ (a : Unit'). a.label) db.assertions k)
      ∙ sym (label_by_place (Some k) e)

-- ---- labels that scripts add

own_label : (w : Word) (ls : List Word)
    → find (λ (p : Word × Word). bytes_eq w p.0) (map (λ v. (v, v)) ls) ≡ (if is_some (place_of (bytes_eq w) ls) then Some (w, w) else None)
own_label w [] = refl
own_label w (v ∷ ls) = elim (cases_Bool (bytes_eq w v)) [
  | inl y ↦
      ap (λ b. cond b (Some (v, v)) (find (λ (p : Word × Word). bytes_eq w p.0) (map (λ v. (v, v)) ls))) y
      ∙ ap (λ u. Some (u, u)) (sym (same_bytes w v y))
      ∙ sym (ap (λ b. if is_some (cond b (Some 0) (option_map (λ n. suc n) (place_of (bytes_eq w) ls))) then Some (w, w) else None) y)
  | inr n ↦
      ap (λ b. cond b (Some (v, v)) (find (λ (p : Word × Word). bytes_eq w p.0) (map (λ v. (v, v)) ls))) n
      ∙ own_label w ls
      ∙ ap (λ b. if b then Some (w, w) else None) (sym (mapped_some (λ (n : ℕ). suc n) (place_of (bytes_eq w) ls)))
      ∙ sym (ap (λ b. if is_some (cond b (Some 0) (option_map (λ n. suc n) (place_of (bytes_eq w) ls))) then Some (w, w) else None) n)
]

module _ (m : Map) (ls : List Word) (w : Word) where
  among_both : label_in (with_labels m ls) w ≡ option_map (λ p. p.1)
      (option_or (find (λ (p : Word × Word). bytes_eq w p.0) m.labels) (if is_some (place_of (bytes_eq w) ls) then Some (w, w) else None))
  among_both =
      ap (option_map (λ p. p.1)) (find-append (λ (p : Word × Word). bytes_eq w p.0) m.labels (map (λ v. (v, v)) ls))
      ∙ ap (λ o. option_map (λ p. p.1) (option_or (find (λ (p : Word × Word). bytes_eq w p.0) m.labels) o)) (own_label w ls)

  first_label : (o p : Option (Word × Word)) (l : Word) → option_map (λ p. p.1) o ≡ Some l
      → option_map (λ p. p.1) (option_or o p) ≡ Some l
  first_label None p l e = absurd cc
  first_label (Some q) p l e = e

  no_label : (o p : Option (Word × Word)) → option_map (λ p. p.1) o ≡ None → option_map (λ p. p.1) (option_or o p) ≡ option_map (λ p. p.1) p
  no_label None p e = refl
  no_label (Some q) p e = absurd cc

  -- one that is taken keeps its label in the library
  pub label_stays : (l : Word) → label_in m w ≡ Some l → label_in (with_labels m ls) w ≡ Some l
  label_stays l e = among_both ∙ first_label (find (λ (p : Word × Word). bytes_eq w p.0) m.labels) _ l e

  -- one that is added has its own, and another has none
  pub label_added : label_in m w ≡ None → is_some (place_of (bytes_eq w) ls) ≡ true → label_in (with_labels m ls) w ≡ Some w
  label_added e y =
      among_both ∙ no_label (find (λ (p : Word × Word). bytes_eq w p.0) m.labels) _ e
      ∙ ap (λ b. option_map (λ (p : Word × Word). p.1) (if b then Some (w, w) else None)) y

  pub label_none : label_in m w ≡ None → is_some (place_of (bytes_eq w) ls) ≡ false → label_in (with_labels m ls) w ≡ None
  label_none e n =
      among_both ∙ no_label (find (λ (p : Word × Word). bytes_eq w p.0) m.labels) _ e
      ∙ ap (λ b. option_map (λ (p : Word × Word). p.1) (if b then Some (w, w) else None)) n
