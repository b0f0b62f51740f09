-- A comment says nothing.
use Rattle.std.proofs.Common.{◌≡◌, ℕ, suc, Bool, true, false, cond, List, [], ◌∷◌, ◌++◌, refl, sym, ap}
use Rattle.std.proofs.Common.{◌∙◌, inl, inr, arith, eqb}
use Rattle.std.specs.Prelude.{◌||◌, ◌&&◌, None, codes}
use Rattle.std.specs.List.{list_any}
use Rattle.std.specs.Str.{bytes_eq}
use Rattle.std.proofs.lemmas.Bool.{cases_Bool, cond-true, cond-false, or_parts, or_from}
use Rattle.mmtext.specs.Words.{Word, has_dollar}
use Rattle.mmtext.specs.Text.{is_white, is_printable, is_lawful, ends_token, tokens, begins_comment_mark, has_comment_mark, IsClean}
use Rattle.mmtext.specs.Comments.{words_of, without_comments}
use Rattle.mmtext.proofs.Marks.{same_word}
use Rattle.mmsyntax.proofs.Lines.{AreLawful, lawful_append, clean_lawful}
use Rattle.taketext.specs.Fronts.{SaysNothing, CommentsSayNothing}
use Rattle.taketext.proofs.Separate.{with_first, spoken, words_spoken, spoken_behind}

-- ---- lawful bytes

pub are_lawful : (bytes : List ℕ) → IsClean bytes → AreLawful bytes
are_lawful [] h = tt
are_lawful (b ∷ bs) h = (h 0 (omega arith), are_lawful bs (λ k lt. h (suc k) (omega arith)))

pub white_lawful : (b : ℕ) → is_white b ≡ true → is_lawful b ≡ true
white_lawful b h = ap (λ x. x || is_printable b) h

-- ---- words in a comment

-- a word that closes a comment has a mark of comments in it
closing_marked : (w : Word) → bytes_eq w (codes "$)") ≡ true → has_comment_mark w ≡ true
closing_marked w h = ap has_comment_mark (same_word w (codes "$)") h)

-- an open comment passes over words without such a mark, and $) closes it
closed_behind : (ws vs : List Word) → list_any has_comment_mark ws ≡ false
    → without_comments true (ws ++ codes "$)" ∷ vs) ≡ without_comments false vs
closed_behind [] vs h = refl
closed_behind (w ∷ ws) vs h =
    let both = or_parts (has_comment_mark w) (list_any has_comment_mark ws) h in
    let more = ws ++ codes "$)" ∷ vs in
    let rest = without_comments true more in
    elim (cases_Bool (bytes_eq w (codes "$)"))) [
      | inl y ↦ absurd (let e : true ≡ false = sym (closing_marked w y) ∙ both.0 in cc)
      | inr n ↦ cond-false (bytes_eq w (codes "$)")) (without_comments false more) (cond (has_comment_mark w) None rest) n
          ∙ cond-false (has_comment_mark w) None rest both.0 ∙ closed_behind ws vs both.1
    ]

-- ---- the law

marks_spoken : (spoken (codes "$(") ≡ codes "$(" ∷ []) × (spoken (codes "$)") ≡ codes "$)" ∷ [])
unfolding spoken
marks_spoken = (refl, refl)

pub comments_say_nothing : CommentsSayNothing
comments_say_nothing first last inside f l clean plain =
    let end = last ∷ codes "$)" in
    let bytes = codes "$(" ++ (first ∷ (inside ++ end)) in
    let unmarked : list_any has_comment_mark (spoken inside) ≡ false =
    ap (list_any has_comment_mark) (sym (words_spoken 0 inside)) ∙ plain in
    let words : words_of (tokens bytes) ≡ codes "$(" ∷ (spoken inside ++ codes "$)" ∷ []) =
    words_spoken 0 bytes ∙ spoken_behind (codes "$(") (inside ++ end) first f
    ∙ ap (λ ws. ws ++ spoken (inside ++ end)) marks_spoken.0
    ∙ ap (λ ws. codes "$(" ∷ ws) (spoken_behind inside (codes "$)") last l ∙ ap (λ ws. spoken inside ++ ws) marks_spoken.1) in
    let lawful : AreLawful bytes =
    (refl, (refl, (white_lawful first f, lawful_append inside end (are_lawful inside clean) (white_lawful last l, (refl, (refl, tt)))))) in
    record {
      clean = clean_lawful bytes lawful;
      no_words = ap (without_comments false) words ∙ closed_behind (spoken inside) [] unmarked;
    }

-- ---- a comment without $

first_plain : (b : ℕ) (ends : Bool) (ws : List Word) → eqb b 36 ≡ false → list_any has_dollar ws ≡ false
    → list_any has_dollar (with_first b ends ws) ≡ false
first_plain b true ws h g =
    or_from (eqb b 36 || false) (list_any has_dollar ws) (or_from (eqb b 36) false h refl) g
first_plain b false [] h g = or_from (eqb b 36 || false) false (or_from (eqb b 36) false h refl) refl
first_plain b false (w ∷ ws) h g =
    let both = or_parts (has_dollar w) (list_any has_dollar ws) g in
    or_from (eqb b 36 || has_dollar w) (list_any has_dollar ws) (or_from (eqb b 36) (has_dollar w) h both.0) both.1

words_plain : (bytes : List ℕ) → has_dollar bytes ≡ false → list_any has_dollar (spoken bytes) ≡ false
unfolding spoken
words_plain [] h = refl
words_plain (b ∷ bs) h =
    let both = or_parts (eqb b 36) (has_dollar bs) h in
    let first = with_first b (ends_token bs) (spoken bs) in
    let later = words_plain bs both.1 in
    elim (cases_Bool (is_white b)) [
      | inl y ↦ ap (list_any has_dollar) (cond-true (is_white b) (spoken bs) first y) ∙ later
      | inr n ↦ ap (list_any has_dollar) (cond-false (is_white b) (spoken bs) first n)
          ∙ first_plain b (ends_token bs) (spoken bs) both.0 later
    ]

plain_unmarked : (w : Word) → has_dollar w ≡ false → has_comment_mark w ≡ false
plain_unmarked [] h = refl
plain_unmarked (b ∷ bs) h =
    let both = or_parts (eqb b 36) (has_dollar bs) h in
    or_from (eqb b 36 && begins_comment_mark bs) (has_comment_mark bs) (ap (λ x. x && begins_comment_mark bs) both.0)
    (plain_unmarked bs both.1)

all_unmarked : (ws : List Word) → list_any has_dollar ws ≡ false → list_any has_comment_mark ws ≡ false
all_unmarked [] h = refl
all_unmarked (w ∷ ws) h =
    let both = or_parts (has_dollar w) (list_any has_dollar ws) h in
    or_from (has_comment_mark w) (list_any has_comment_mark ws) (plain_unmarked w both.0) (all_unmarked ws both.1)

-- lawful bytes without $ between white space, $( and $)
pub plain_comment : (first last : ℕ) (inside : List ℕ) → is_white first ≡ true → is_white last ≡ true → IsClean inside
    → has_dollar inside ≡ false → SaysNothing (codes "$(" ++ (first ∷ (inside ++ (last ∷ codes "$)"))))
plain_comment first last inside f l clean plain =
    comments_say_nothing first last inside f l clean
    (ap (list_any has_comment_mark) (words_spoken 0 inside) ∙ all_unmarked (spoken inside) (words_plain inside plain))
