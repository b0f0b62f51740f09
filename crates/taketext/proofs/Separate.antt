-- White space ends a word: the words of bytes, wherever these stand.
use Rattle.std.proofs.Common.{◌≡◌, ◌≢◌, ℕ, suc, Bool, true, false, List, [], ◌∷◌, ◌++◌, refl, sym, ap, ◌∙◌, inl, inr}
use Rattle.std.specs.Prelude.{if◌then◌else◌}
use Rattle.std.proofs.lemmas.Bool.{cases_Bool, cond-true, cond-false}
use Rattle.mmtext.specs.Words.{Word}
use Rattle.mmtext.specs.Text.{Token, is_white, ends_token, with_byte, tokens_from, tokens}
use Rattle.mmtext.specs.Comments.{words_of}
use Rattle.taketext.specs.Fronts.{WhiteSpaceEndsWords}

-- a printable byte before words, of which the first goes on from it unless white space stands between
abbrev pub with_first : ℕ → Bool → List Word → List Word
with_first b false (w ∷ ws) = (b ∷ w) ∷ ws
with_first b false [] = (b ∷ []) ∷ []
with_first b true ws = (b ∷ []) ∷ ws

-- the words of bytes
unfoldable pub spoken : List ℕ → List Word
spoken [] = []
spoken (b ∷ bs) = if is_white b then spoken bs else with_first b (ends_token bs) (spoken bs)

words_with_byte : (p b : ℕ) (ends : Bool) (ts : List Token) → words_of (with_byte p b ends ts) ≡ with_first b ends (words_of ts)
words_with_byte p b false (t ∷ ts) = refl
words_with_byte p b false [] = refl
words_with_byte p b true ts = refl

pub words_spoken : (p : ℕ) (bytes : List ℕ) → words_of (tokens_from p bytes) ≡ spoken bytes
unfolding tokens_from spoken
words_spoken p [] = refl
words_spoken p (b ∷ bs) =
    let later = tokens_from (suc p) bs in
    let first = with_byte p b (ends_token bs) later in
    let word = with_first b (ends_token bs) (spoken bs) in
    elim (cases_Bool (is_white b)) [
      | inl y ↦ ap words_of (cond-true (is_white b) later first y) ∙ words_spoken (suc p) bs
          ∙ sym (cond-true (is_white b) (spoken bs) word y)
      | inr n ↦ ap words_of (cond-false (is_white b) later first n) ∙ words_with_byte p b (ends_token bs) later
          ∙ ap (with_first b (ends_token bs)) (words_spoken (suc p) bs) ∙ sym (cond-false (is_white b) (spoken bs) word n)
    ]

-- ---- words behind white space

some_word : (b : ℕ) (ends : Bool) (ws : List Word) → with_first b ends ws ≢ []
some_word b false (w ∷ ws) e = cc
some_word b false [] e = cc
some_word b true ws e = cc

-- where a byte of a token follows, there is a word
pub word_follows : (bytes : List ℕ) → ends_token bytes ≡ false → spoken bytes ≢ []
unfolding spoken
word_follows [] h e = cc
word_follows (b ∷ bs) h e =
    some_word b (ends_token bs) (spoken bs)
    (sym (cond-false (is_white b) (spoken bs) (with_first b (ends_token bs) (spoken bs)) h) ∙ e)

first_append : (b : ℕ) (ends : Bool) (ws vs : List Word) → (ends ≡ false → ws ≢ [])
    → with_first b ends (ws ++ vs) ≡ with_first b ends ws ++ vs
first_append b false (w ∷ ws) vs h = refl
first_append b false [] vs h = absurd (h refl refl)
first_append b true ws vs h = refl

ends_append : (bytes rest : List ℕ) (white : ℕ) → is_white white ≡ true → ends_token (bytes ++ white ∷ rest) ≡ ends_token bytes
ends_append [] rest white h = h
ends_append (b ∷ bs) rest white h = refl

pub spoken_behind : (front rest : List ℕ) (white : ℕ) → is_white white ≡ true → spoken (front ++ white ∷ rest) ≡ spoken front ++ spoken rest
unfolding spoken
spoken_behind [] rest white h = cond-true (is_white white) (spoken rest) (with_first white (ends_token rest) (spoken rest)) h
spoken_behind (b ∷ bs) rest white h =
    let all = bs ++ white ∷ rest in
    let here = with_first b (ends_token bs) (spoken bs) in
    let later = spoken_behind bs rest white h in
    elim (cases_Bool (is_white b)) [
      | inl y ↦ cond-true (is_white b) (spoken all) (with_first b (ends_token all) (spoken all)) y ∙ later
          ∙ ap (λ ws. ws ++ spoken rest) (sym (cond-true (is_white b) (spoken bs) here y))
      | inr n ↦ cond-false (is_white b) (spoken all) (with_first b (ends_token all) (spoken all)) n
          ∙ ap (λ e. with_first b e (spoken all)) (ends_append bs rest white h)
          ∙ ap (with_first b (ends_token bs)) later
          ∙ first_append b (ends_token bs) (spoken bs) (spoken rest) (word_follows bs)
          ∙ ap (λ ws. ws ++ spoken rest) (sym (cond-false (is_white b) (spoken bs) here n))
    ]

-- ---- the law

pub white_space_ends_words : WhiteSpaceEndsWords
white_space_ends_words front rest white h =
    words_spoken 0 (front ++ white ∷ rest) ∙ spoken_behind front rest white h
    ∙ ap (λ ws. ws ++ spoken rest) (sym (words_spoken 0 front))
    ∙ ap (λ vs. words_of (tokens front) ++ vs) (sym (words_spoken 0 rest))
