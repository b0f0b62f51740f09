-- What the mark of a word says of it, and words without a $.
use Rattle.std.proofs.Common.{◌≡◌, ℕ, Bool, true, false, cond, [], ◌∷◌, refl, ap, subst, ◌∙◌, inl, inr, eqb}
use Rattle.std.specs.Prelude.{◌||◌, codes}
use Rattle.std.specs.Str.{bytes_eq}
use Rattle.std.proofs.lemmas.Bool.{cases_Bool, eqb-true, and_parts}
use Rattle.std.proofs.lemmas.Slice.Eq.{bytes_eq-Decides}
use Rattle.mmtext.specs.declared.mark.Mark.{Mark}
use Rattle.mmtext.specs.declared.mark.Mark.TheVariants as mark
use Rattle.mmtext.specs.Words.{Word, has_dollar, is_label, is_label_byte}
use Rattle.mmtext.specs.Text.{dollar_mark, mark_of}

pub same_word : (a b : Word) → bytes_eq a b ≡ true → a ≡ b
same_word a b h = (bytes_eq-Decides a b).0 h

-- ---- which word has which mark

abbrev pub Says : Mark → Word → Type 0
Says mark.Constants w = w ≡ codes "$c"
Says mark.Variables w = w ≡ codes "$v"
Says mark.Floating w = w ≡ codes "$f"
Says mark.Axiom w = w ≡ codes "$a"
Says mark.End w = w ≡ codes "$."
Says mark.Provable w = w ≡ codes "$p"
Says mark.Essential w = w ≡ codes "$e"
Says mark.Disjoint w = w ≡ codes "$d"
Says mark.Opening w = w ≡ codes "${"
Says mark.Closing w = w ≡ codes "$}"
Says mark.Proof w = w ≡ codes "$="
Says mark.Comment w = w ≡ codes "$("
Says mark.Uncomment w = w ≡ codes "$)"
Says mark.Include w = w ≡ codes "$["
Says mark.Included w = w ≡ codes "$]"
Says _ w = Unit {0}

says_cond : (w : Word) (b : Bool) (x y : Mark) → (b ≡ true → Says x w) → Says y w → Says (cond b x y) w
says_cond w true x y p q = p refl
says_cond w false x y p q = q

says_dollar : (w : Word) → Says (dollar_mark w) w
says_dollar w =
    says_cond w (bytes_eq w (codes "$c")) mark.Constants _ (same_word w (codes "$c"))
    (says_cond w (bytes_eq w (codes "$v")) mark.Variables _ (same_word w (codes "$v"))
    (says_cond w (bytes_eq w (codes "$f")) mark.Floating _ (same_word w (codes "$f"))
    (says_cond w (bytes_eq w (codes "$a")) mark.Axiom _ (same_word w (codes "$a"))
    (says_cond w (bytes_eq w (codes "$.")) mark.End _ (same_word w (codes "$."))
    (says_cond w (bytes_eq w (codes "$p")) mark.Provable _ (same_word w (codes "$p"))
    (says_cond w (bytes_eq w (codes "$e")) mark.Essential _ (same_word w (codes "$e"))
    (says_cond w (bytes_eq w (codes "$d")) mark.Disjoint _ (same_word w (codes "$d"))
    (says_cond w (bytes_eq w (codes "${")) mark.Opening _ (same_word w (codes "${"))
    (says_cond w (bytes_eq w (codes "$}")) mark.Closing _ (same_word w (codes "$}"))
    (says_cond w (bytes_eq w (codes "$=")) mark.Proof _ (same_word w (codes "$="))
    (says_cond w (bytes_eq w (codes "$(")) mark.Comment _ (same_word w (codes "$("))
    (says_cond w (bytes_eq w (codes "$)")) mark.Uncomment _ (same_word w (codes "$)"))
    (says_cond w (bytes_eq w (codes "$[")) mark.Include _ (same_word w (codes "$["))
    (says_cond w (bytes_eq w (codes "$]")) mark.Included mark.Stray (same_word w (codes "$]")) tt))))))))))))))

pub says : (w : Word) → Says (mark_of w) w
unfolding mark_of
says w = says_cond w (has_dollar w) (dollar_mark w) mark.Plain (λ _. says_dollar w) tt

-- ---- words without a $

pub mark_plain : (w : Word) → has_dollar w ≡ false → mark_of w ≡ mark.Plain
unfolding mark_of
mark_plain w h = ap (λ b. cond b (dollar_mark w) mark.Plain) h

no_dollar_byte : (b : ℕ) → is_label_byte b ≡ true → eqb b 36 ≡ false
no_dollar_byte b h = elim (cases_Bool (eqb b 36)) [
  | inl y ↦ absurd
      (let e : is_label_byte 36 ≡ true = subst (λ c. is_label_byte c ≡ true) (eqb-true b 36 y) h in
      let f : is_label_byte 36 ≡ false = refl in
      cc)
  | inr n ↦ n
]

pub label_plain : (w : Word) → is_label w ≡ true → has_dollar w ≡ false
label_plain [] h = refl
label_plain (b ∷ bs) h =
    let both = and_parts (is_label_byte b) (is_label bs) h in
    ap (λ c. c || has_dollar bs) (no_dollar_byte b both.0) ∙ label_plain bs both.1
