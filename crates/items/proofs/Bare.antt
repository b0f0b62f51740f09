-- Statements without $=.
use Rattle.std.proofs.Common.{◌≡◌, ◌∙◌, ℕ, ◌≤◌, Bool, true, false, List, [], ◌∷◌, ◌++◌, Option, Some, None, codes, refl, sym, ap, subst, arith}
use Rattle.std.proofs.Common.{inl, inr}
use Rattle.std.specs.Prelude.{◌||◌, MatchOption, nat_le}
use Rattle.std.specs.List.{list_any}
use mathlib.Core.Bool.{not}
use Rattle.std.specs.Str.{bytes_eq}
use Rattle.std.proofs.lemmas.Bool.{cases_Bool, leb-true, leb-false}
use Rattle.mmtext.specs.Words.{Word}
use Rattle.mmtext.specs.Text.{Token}
use Rattle.items.specs.Items.{Item, words, outside, is_open_behind, IsStatement}
use Rattle.items.specs.Reading.{tokens_at, IsFirst, end_of, Stands, IsPassed}
use Rattle.items.specs.Bare.{has_proof}
use Rattle.items.proofs.Standing.{words_both}
use Rattle.items.proofs.Commented.{open_both, outside_both}
use Rattle.items.proofs.Reworded.{nothing_left, something_left, one_left, stands_later}

-- what stands to a place begins what stands to a later one
pub covers : (text : List ℕ) (at mid end : ℕ) (x front : Item) → Stands text at x end → Stands text at front mid → mid ≤ end
    → (rest : Item) × (x ≡ front ++ rest) × Stands text mid rest end
covers text at mid end x [] h k le = (x, refl, subst (λ m. Stands text m x end) k h)
covers text at mid end x (p ∷ ps) h k le =
    let to_mid = stands_later text (end_of k.0) mid ps k.3 in
    let later = k.1.later in
    let one = one_left text at end x k.0 h (omega (arith, to_mid, later, le)) k.1 in
    let rest = covers text (end_of k.0) mid end one.0 ps one.2 k.3 le in
    (rest.0, one.1 ∙ (ap (λ q. q ∷ one.0) (sym k.2) ∙ ap (λ ys. p ∷ ys) rest.1), rest.2)

none_in_front : (test : Word → Bool) (xs ys : List Word) → list_any test (xs ++ ys) ≡ false → list_any test xs ≡ false
none_in_front test [] ys h = refl
none_in_front test (x ∷ xs) ys h = one_by_one (test x) (list_any test (xs ++ ys)) (list_any test xs) h (none_in_front test xs ys)
  where
    one_by_one : (b c d : Bool) → (b || c) ≡ false → (c ≡ false → d ≡ false) → (b || d) ≡ false
    one_by_one true c d h f = absurd cc
    one_by_one false c d h f = f h

-- words of which none closes a comment leave it open
still_open : (ws : List Word) → list_any (λ w. bytes_eq w (codes "$)")) ws ≡ false → is_open_behind true ws ≡ true
still_open [] none = refl
still_open (w ∷ ws) none = goes_on (bytes_eq w (codes "$)")) (list_any (λ w. bytes_eq w (codes "$)")) ws) none (still_open ws)
  where
    goes_on : (b c : Bool) → (b || c) ≡ false → (c ≡ false → is_open_behind true ws ≡ true) → is_open_behind (not b) ws ≡ true
    goes_on true c h f = absurd cc
    goes_on false c h f = f h

last_word : (vs ws : List Word) (v w : Word) → vs ++ v ∷ [] ≡ ws ++ w ∷ [] → v ≡ w
last_word [] [] v w e = cc
last_word [] (u ∷ []) v w e = absurd cc
last_word [] (u ∷ t ∷ us) v w e = absurd cc
last_word (u ∷ []) [] v w e = absurd cc
last_word (u ∷ t ∷ us) [] v w e = absurd cc
last_word (t ∷ vs) (u ∷ ws) v w e = let later : vs ++ v ∷ [] ≡ ws ++ w ∷ [] = cc in last_word vs ws v w later

-- a comment that is closed within what stands there ends
pub comment_closed : (text : List ℕ) (from at end : ℕ) (x left : Item) → Stands text from left at
    → list_any (λ w. bytes_eq w (codes "$)")) (words left) ≡ false → tokens_at text at ≡ [] → Stands text from x end
    → is_open_behind true (words x) ≡ false → ⊥
comment_closed text from at end x left stands none over is closed = elim (cases_Bool (nat_le end at)) [
  | inl y ↦
      let cut = covers text from end at left x stands is (leb-true end at y) in
      let before : list_any (λ w. bytes_eq w (codes "$)")) (words x) ≡ false =
      none_in_front (λ w. bytes_eq w (codes "$)")) (words x) (words cut.0)
      (sym (ap (list_any (λ w. bytes_eq w (codes "$)"))) (ap words cut.1 ∙ words_both x cut.0)) ∙ none) in
      let e : true ≡ false = sym (still_open (words x) before) ∙ closed in cc
  | inr n ↦
      let later = leb-false end at n in
      let cut = covers text from at end x left is stands (omega (arith, later)) in
      something_left text at end cut.0 cut.2 later over
]

-- a statement ends outside of comments
pub statement_closed : (x : Item) → IsStatement x → is_open_behind false (words x) ≡ false
statement_closed x is =
    ap (is_open_behind false) is.whole ∙ (open_both false is.front (codes "$." ∷ []) ∙ ap (λ b. is_open_behind b (codes "$." ∷ [])) is.closed)

-- ---- what stands within words that were passed over

module _ (text : List ℕ) (from at end : ℕ) (x : Item) (p : IsPassed (λ w. bytes_eq w (codes "$=")) text from at)
    (stands : Stands text from x end) where
  bare_within : end ≤ at → has_proof x ≡ false
  bare_within le =
      let cut = covers text from end at p.left x p.stands stands le in
      none_in_front (λ w. bytes_eq w (codes "$=")) (outside false (words x)) (outside (is_open_behind false (words x)) (words cut.0))
      (sym (ap (list_any (λ w. bytes_eq w (codes "$=")))
      (ap (λ y. outside false (words y)) cut.1 ∙ (ap (outside false) (words_both x cut.0) ∙ outside_both false (words x) (words cut.0))))
      ∙ p.inside)

  -- up to the last token
  pub bare_over : tokens_at text at ≡ [] → has_proof x ≡ false
  bare_over over = elim (cases_Bool (nat_le end at)) [
    | inl y ↦ bare_within (leb-true end at y)
    | inr n ↦
        let later = leb-false end at n in
        let cut = covers text from at end x p.left stands p.stands (omega (arith, later)) in
        absurd (something_left text at end cut.0 cut.2 later over)
  ]

  module _ (is : IsStatement x) (t : Token) (first : IsFirst text at t) where
    -- up to a comment that isn't closed
    pub bare_open : bytes_eq t.text (codes "$(") ≡ true
        → ((y : Item) → Stands text (end_of t) y end → is_open_behind true (words y) ≡ false → ⊥) → has_proof x ≡ false
    bare_open opens never = elim (cases_Bool (nat_le end at)) [
      | inl y ↦ bare_within (leb-true end at y)
      | inr n ↦
          let later = leb-false end at n in
          let cut = covers text from at end x p.left stands p.stands (omega (arith, later)) in
          let one = one_left text at end cut.0 t cut.2 later first in
          let closed : is_open_behind true (words one.0) ≡ false =
          sym (ap (λ b. is_open_behind b (words one.0)) opens)
          ∙ (sym (ap (λ b. is_open_behind b (t.text ∷ words one.0)) p.closed)
          ∙ (sym (ap (is_open_behind false) (ap words cut.1 ∙ (words_both p.left cut.0 ∙ ap (λ y. words p.left ++ words y) one.1))
          ∙ open_both false (words p.left) (t.text ∷ words one.0)) ∙ statement_closed x is)) in
          absurd (never one.0 one.2 closed)
    ]

    -- up to a $= at its end or behind that
    pub bare_behind : t.text ≡ codes "$=" → end ≤ end_of t → has_proof x ≡ false
    bare_behind proves le = elim (cases_Bool (nat_le end at)) [
      | inl y ↦ bare_within (leb-true end at y)
      | inr n ↦
          let later = leb-false end at n in
          let cut = covers text from at end x p.left stands p.stands (omega (arith, later)) in
          let one = one_left text at end cut.0 t cut.2 later first in
          let none = nothing_left text (end_of t) end one.0 one.2 le in
          let whole : words x ≡ words p.left ++ codes "$=" ∷ [] =
          ap words cut.1 ∙ (words_both p.left cut.0 ∙ (ap (λ y. words p.left ++ words y) one.1
          ∙ (ap (λ w. words p.left ++ w ∷ words one.0) proves ∙ ap (λ y. words p.left ++ codes "$=" ∷ words y) none))) in
          let same : codes "$=" ≡ codes "$." = last_word (words p.left) is.front (codes "$=") (codes "$.") (sym whole ∙ is.whole) in
          absurd cc
    ]

-- ---- what follows however it is

pub anyway : (o : Option ℕ) (P : Type 0) (Q : ℕ → Type 0) → P → MatchOption o P (λ n. Q n → P)
anyway None P Q h = h
anyway (Some n) P Q h = λ _. h
