-- The first part of words.
use Rattle.std.proofs.Common.{◌≡◌, ◌≢◌, ◌∙◌, ℕ, zero, suc, min, ◌+◌, ◌-◌, ◌<◌, ◌≤◌, List, [], ◌∷◌, length, map, take, drop, refl, sym, ap, subst, arith, length-drop}
use Rattle.std.proofs.lemmas.List.{take_min, drop_min, take-map, drop-map, length-map, take_rest, length-take-le, drop-drop}
use Rattle.mmtext.specs.Text.{Token}
use Rattle.mmtext.specs.Views.{seen}
use Rattle.mmtext.specs.declared.token.Token.{Token as CodeToken}
use Rattle.spreading.specs.Forms.{behind_word, Part, AreParts}

pub first_part : (t : Token) (ts : List Token) (n : ℕ) → n ≡ suc (min (behind_word t ts) (length ts)) → (ps : List Part)
    → AreParts (drop n (t ∷ ts)) ps → (n ≡ 0 → ⊥) × AreParts (t ∷ ts) (take n (t ∷ ts) ∷ ps)
first_part t ts n is ps parts =
    let m = min (behind_word t ts) (length ts) in (
      λ none. absurd (omega arith),
      (
        ap (λ k. take k (t ∷ ts)) is ∙ ap (λ us. t ∷ us) (take_min (behind_word t ts) ts),
        subst (λ us. AreParts us ps) (drop_min (behind_word t ts) ts) (subst (λ k. AreParts (drop k (t ∷ ts)) ps) is parts),
      ),
    )

-- all words have parts
parts_within : (n : ℕ) (ts : List Token) → length ts ≤ n → (ps : List Part) × AreParts ts ps
parts_within n [] le = ([], refl)
parts_within zero (t ∷ ts) le = absurd (omega arith)
parts_within (suc n) (t ∷ ts) le =
    let m = behind_word t ts in
    let long = length-drop m ts in
    let rest = parts_within n (drop m ts) (omega arith) in
    ((t ∷ take m ts) ∷ rest.0, (refl, rest.1))

pub parts_of : (ts : List Token) → (ps : List Part) × AreParts ts ps
parts_of ts = parts_within (length ts) ts (omega arith)

-- so many words are the first part of some
abbrev pub IsFirst : List Token → ℕ → Type 0
IsFirst ts n = (ps : List Part) → AreParts (drop n ts) ps → ts ≢ [] → (n ≡ 0 → ⊥) × AreParts ts (take n ts ∷ ps)

-- the words behind a place, as the code cuts them off
abbrev pub words_behind : List CodeToken → ℕ → List CodeToken
words_behind words at = take (length words - at) (drop at words)

-- the first part of the words that are left
module _ (words : List CodeToken) (at n : ℕ) (lt : at < length words) (within : n ≤ length (words_behind words at))
    (first : IsFirst (map seen (words_behind words at)) n) (part : List CodeToken) (cut : part ≡ take n (words_behind words at)) where
  abbrev rest : List CodeToken
  rest = drop at words

  same : words_behind words at ≡ rest
  same = take_rest words at

  long : length rest ≡ length words - at
  long = length-drop at words

  is_first : IsFirst (map seen rest) n
  is_first = subst (λ us. IsFirst (map seen us) n) same first

  words_left : map seen rest ≢ []
  words_left none = let e : length rest ≡ 0 = sym (length-map rest seen) ∙ ap length none in omega (arith, long)

  is_cut : part ≡ take n rest
  is_cut = cut ∙ ap (take n) same

  length_is : length part ≡ n
  length_is = ap length is_cut ∙ length-take-le n rest (subst (λ us. n ≤ length us) same within)

  pub more_within : at + length part ≤ length words
  more_within =
      let few : n ≤ length rest = subst (λ us. n ≤ length us) same within in
      omega (arith, long, length_is)

  pub some_first : 0 < length part
  some_first =
      let parts = parts_of (drop n (map seen rest)) in
      let some : n ≡ 0 → ⊥ = (is_first parts.0 parts.1 words_left).0 in
      omega (arith, length_is)

  pub behind_first : drop n (words_behind words at) ≡ drop (at + length part) words
  behind_first = ap (drop n) same ∙ (drop-drop n at words ∙ ap (λ k. drop (at + k) words) (sym length_is))

  pub part_first : (ps : List Part) → AreParts (map seen (drop (at + length part) words)) ps
      → AreParts (map seen rest) (map seen part ∷ ps)
  part_first ps parts =
      let back : map seen (drop (at + length part) words) ≡ drop n (map seen rest) =
      ap (map seen) (sym behind_first ∙ ap (drop n) same) ∙ sym (drop-map seen n rest) in
      subst (λ p. AreParts (map seen rest) (p ∷ ps)) (take-map seen n rest ∙ ap (map seen) (sym is_cut))
      (is_first ps (subst (λ us. AreParts us ps) back parts) words_left).1
