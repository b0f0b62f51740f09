-- No label of a library is L.k of another.
use Rattle.std.proofs.Common.{◌≡◌, ◌∙◌, ◌⊎◌, inl, inr, ℕ, ◌<◌, Bool, true, false, List, [], length, map, get_or, refl, sym, ap, subst}
use Rattle.std.proofs.Common.{arith}
use Rattle.std.specs.Prelude.{IsTrue, Contains}
use Rattle.std.specs.List.{list_any}
use Rattle.std.specs.Str.{bytes_eq}
use Rattle.std.proofs.lemmas.Bool.{cases_Bool}
use Rattle.std.proofs.lemmas.List.{get_or-map, get_or_default}
use Rattle.std.proofs.lemmas.List.Folds.{list_any_at}
use Rattle.mmtext.specs.Words.{Word, has_dot}
use Rattle.mmsyntax.specs.Dotted.{is_dotted, ClashNowhere}
use Rattle.mmsyntax.proofs.DottedWords.{plain_not_dotted}
use Rattle.mmsyntax.proofs.Names.{bytes_eq-same, same_bytes}
use Rattle.source.specs.Scopes.{is_in}
use Rattle.taking.specs.Fresh.{is_named_by, AreGiven}
use Rattle.sites.proofs.Flags.{any_of}

none_of : (test : Word → Bool) (l : Word) (ls : List Word) → list_any test ls ≡ false → is_in ls l ≡ true → test l ≡ false
none_of test l ls none in' =
    elim (cases_Bool (test l)) [
      | inl y ↦ let some : list_any test ls ≡ true = any_of test l y ls in' in absurd cc
      | inr n ↦ n
    ]

-- whether a label is L.k of one of some
abbrev pub changing : List Word → Word → Bool
changing labels p = list_any (λ l. is_dotted l p) labels

kind_of : (free : Word → Bool) (b : Bool) (label name : Word) → IsTrue (is_named_by free b label name)
    → (free name ≡ true) ⊎ ((name ≡ label) × (b ≡ false))
kind_of free true label name h = inl h
kind_of free false label name h = inr (sym (same_bytes label name h), refl)

module _ (free : Word → Bool) (labels names : List Word) (given : AreGiven free (map (changing labels) labels) labels names)
    (plain : (w : Word) → free w ≡ true → has_dot w ≡ false)
    (no_trunk : (l w : Word) → free l ≡ true → is_in labels w ≡ true → is_dotted l w ≡ false) where
  named_at : (k : ℕ) → k < length labels
      → IsTrue (is_named_by free (changing labels (get_or labels k [])) (get_or labels k []) (get_or names k []))
  named_at k lt =
      subst (λ (b : Bool). IsTrue (is_named_by free b (get_or labels k []) (get_or names k [])))
      (get_or-map (changing labels) labels k [] false lt) (given.named k lt)

  -- a name is free, or a label that doesn't change
  kinds : (w : Word) → Contains names w → (free w ≡ true) ⊎ ((is_in labels w ≡ true) × (changing labels w ≡ false))
  kinds w c =
      let many = given.as_many in
      let lt : c.0 < length labels = omega (arith, c.1) in
      let is : get_or names c.0 [] ≡ w = get_or_default names c.0 [] w c.1 ∙ c.2 in
      elim (kind_of free (changing labels (get_or labels c.0 [])) (get_or labels c.0 []) (get_or names c.0 []) (named_at c.0 lt)) [
        | inl f ↦ inl (ap free (sym is) ∙ f)
        | inr s ↦
            let same : get_or labels c.0 [] ≡ w = sym s.0 ∙ is in
            inr (list_any_at (bytes_eq w) labels c.0 [] lt (ap (bytes_eq w) same ∙ bytes_eq-same w), ap (changing labels) (sym same) ∙ s.1)
      ]

  pub are_apart : ClashNowhere names
  are_apart l w there here =
      elim (kinds w here) [
        | inl f ↦ plain_not_dotted l w (plain w f)
        | inr s ↦ elim (kinds l there) [
          | inl g ↦ no_trunk l w g s.0
          | inr t ↦ none_of (λ m. is_dotted m w) l labels s.1 t.0
        ]
      ]

pub given_apart : {free : Word → Bool} {changes : List Bool} {labels names : List Word} → AreGiven free changes labels names
    → changes ≡ map (changing labels) labels → ((w : Word) → free w ≡ true → has_dot w ≡ false)
    → ((l w : Word) → free l ≡ true → is_in labels w ≡ true → is_dotted l w ≡ false) → ClashNowhere names
given_apart {free} {changes} {labels} {names} given are plain no_trunk =
    are_apart free labels names (subst (λ (bs : List Bool). AreGiven free bs labels names) are given) plain no_trunk
