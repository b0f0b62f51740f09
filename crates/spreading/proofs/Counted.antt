-- How many words stand up to one.
use Rattle.std.proofs.Common.{◌≡◌, ◌∙◌, ℕ, suc, min, ◌+◌, ◌≤◌, Bool, true, false, cond, ltb, List, [], ◌∷◌, length, map, Some, None, Option}
use Rattle.std.proofs.Common.{refl, sym, arith, inl, inr, codes}
use Rattle.std.specs.Prelude.{position, not}
use Rattle.std.specs.List.{position_or_len}
use Rattle.std.specs.Str.{bytes_eq}
use Rattle.std.proofs.lemmas.Bool.{cases_Bool, ltb-true, ltb-false, cond-true, cond-false}
use Rattle.mmtext.specs.Text.{Token}
use Rattle.mmtext.specs.Words.{Word}
use Rattle.mmtext.specs.Views.{seen}
use Rattle.mmtext.specs.declared.token.Token.{Token as CodeToken}
use Rattle.spreading.specs.Forms.{up_to, unit_length, place_length, is_beside}
use Rattle.spreading.specs.Words.{says}

abbrev pub is_word : Word → CodeToken → Bool
is_word w t = bytes_eq t.text.now w

-- ---- up to a word

step : (b : Bool) (u p l : ℕ) → u ≡ min (suc p) l → cond b 1 (suc u) ≡ min (suc (cond (not b) (1 + p) 0)) (suc l)
step true u p l e = omega arith
step false u p l e = omega arith

up_to_place : (w : Word) (ts : List CodeToken) → up_to w (map seen ts) ≡ min (suc (position_or_len (is_word w) ts)) (length ts)
up_to_place w [] = refl
up_to_place w (t ∷ ts) =
    step (is_word w t) (up_to w (map seen ts)) (position_or_len (is_word w) ts) (length ts) (up_to_place w ts)

found_at : (w : Word) (ts : List CodeToken) (o : Option ℕ) → position (is_word w) ts ≡ o
    → ((k : ℕ) → o ≡ Some k → k + 1 ≡ up_to w (map seen ts)) × (o ≡ None → length ts ≡ up_to w (map seen ts))
found_at w ts o is =
    let p = position_or_len (is_word w) ts in
    let e = up_to_place w ts in
    elim (cases_Bool (ltb p (length ts))) [
      | inl y ↦
          let lt = ltb-true p (length ts) y in
          let here : o ≡ Some p = sym is ∙ cond-true (ltb p (length ts)) (Some p) None y in (
            λ k at. let same : p ≡ k = cc in omega arith,
            λ none. absurd cc,
          )
      | inr n ↦
          let le = ltb-false p (length ts) n in
          let here : o ≡ None = sym is ∙ cond-false (ltb p (length ts)) (Some p) None n in (
            λ k at. absurd cc,
            λ none. omega arith,
          )
    ]

pub up_to_found : (w : Word) (ts : List CodeToken) (k : ℕ) → position (is_word w) ts ≡ Some k → k + 1 ≡ up_to w (map seen ts)
up_to_found w ts k is = (found_at w ts (Some k) is).0 k refl

pub up_to_none : (w : Word) (ts : List CodeToken) → position (is_word w) ts ≡ None → length ts ≡ up_to w (map seen ts)
up_to_none w ts is = (found_at w ts None is).1 refl

-- ---- no more than there are

pub up_to_within : (w : Word) (ts : List Token) → up_to w ts ≤ length ts
up_to_within w [] = omega arith
up_to_within w (t ∷ ts) = at (says t w) (up_to_within w ts)
  where
    at : (b : Bool) → up_to w ts ≤ length ts → cond b 1 (suc (up_to w ts)) ≤ suc (length ts)
    at true h = omega arith
    at false h = omega arith

either_within : (b : Bool) (m n most : ℕ) → m ≤ most → n ≤ most → cond b m n ≤ most
either_within true m n most h k = h
either_within false m n most h k = k

pub unit_within : (ts : List Token) → unit_length ts ≤ length ts
unit_within [] = omega arith
unit_within (t ∷ ts) =
    either_within (says t (codes "${")) (up_to (codes "$}") (t ∷ ts)) (up_to (codes "$.") (t ∷ ts)) (suc (length ts))
    (up_to_within (codes "$}") (t ∷ ts)) (up_to_within (codes "$.") (t ∷ ts))

pub place_within : (ts : List Token) → place_length ts ≤ 2
place_within [] = omega arith
place_within (t ∷ ts) = either_within (is_beside t) 2 1 2 (omega arith) (omega arith)
