-- What a text says behind what says nothing.
use Rattle.std.proofs.Common.{◌≡◌, ℕ, Bool, true, false, cond, List, [], ◌∷◌, ◌++◌, refl, sym, ap, ◌∙◌, inl, inr}
use Rattle.std.specs.Prelude.{Option, Some, None, codes}
use Rattle.std.specs.Option.{option_map}
use Rattle.std.specs.Str.{bytes_eq}
use Rattle.std.proofs.lemmas.Bool.{cases_Bool, cond-true, cond-false}
use Rattle.mmtext.specs.Words.{Word}
use Rattle.mmtext.specs.Text.{is_white, tokens, has_comment_mark, IsClean}
use Rattle.mmtext.specs.Comments.{words_of, without_comments}
use Rattle.mmsyntax.proofs.Distinct.{all_right}
use Rattle.mmsyntax.proofs.Lines.{lawful_append, clean_lawful}
use Rattle.mmtext.specs.Text.{is_lawful}
use Rattle.taketext.specs.Fronts.{SaysNothing, SpelledBehindComments, DeclaredBehindComments}
use Rattle.taketext.proofs.Separate.{white_space_ends_words}
use Rattle.taketext.proofs.Silent.{are_lawful, white_lawful}

-- ---- words behind words of which none stands outside of comments

none_more : (w : Word) (o : Option (List Word)) → option_map (λ vs. w ∷ vs) o ≡ Some [] → ⊥
none_more w None h = cc
none_more w (Some vs) h = cc

silent_front : (inside : Bool) (ws vs : List Word) → without_comments inside ws ≡ Some []
    → without_comments inside (ws ++ vs) ≡ without_comments false vs
silent_front false [] vs h = refl
silent_front true [] vs h = absurd cc
silent_front false (w ∷ ws) vs h =
    let more = λ (us : List Word). option_map (λ os. w ∷ os) (without_comments false us) in
    elim (cases_Bool (bytes_eq w (codes "$("))) [
      | inl y ↦
          cond-true (bytes_eq w (codes "$(")) (without_comments true (ws ++ vs)) (more (ws ++ vs)) y
          ∙ silent_front true ws vs (sym (cond-true (bytes_eq w (codes "$(")) (without_comments true ws) (more ws) y) ∙ h)
      | inr n ↦
          let rest = sym (cond-false (bytes_eq w (codes "$(")) (without_comments true ws) (more ws) n) ∙ h in
          absurd (none_more w (without_comments false ws) rest)
    ]
silent_front true (w ∷ ws) vs h =
    let marked = λ (us : List Word). cond (has_comment_mark w) None (without_comments true us) in
    elim (cases_Bool (bytes_eq w (codes "$)"))) [
      | inl y ↦
          cond-true (bytes_eq w (codes "$)")) (without_comments false (ws ++ vs)) (marked (ws ++ vs)) y
          ∙ silent_front false ws vs (sym (cond-true (bytes_eq w (codes "$)")) (without_comments false ws) (marked ws) y) ∙ h)
      | inr n ↦
          let rest : marked ws ≡ Some [] = sym (cond-false (bytes_eq w (codes "$)")) (without_comments false ws) (marked ws) n) ∙ h in
          elim (cases_Bool (has_comment_mark w)) [
            | inl y ↦ absurd (let e : None ≡ Some [] = sym (cond-true (has_comment_mark w) None (without_comments true ws) y) ∙ rest in cc)
            | inr m ↦
                cond-false (bytes_eq w (codes "$)")) (without_comments false (ws ++ vs)) (marked (ws ++ vs)) n
                ∙ cond-false (has_comment_mark w) None (without_comments true (ws ++ vs)) m
                ∙ silent_front true ws vs (sym (cond-false (has_comment_mark w) None (without_comments true ws) m) ∙ rest)
          ]
    ]

-- ---- texts behind what says nothing

module _ (front rest : List ℕ) (white : ℕ) (nothing : SaysNothing front) (is : is_white white ≡ true) where
  pub words_behind : without_comments false (words_of (tokens (front ++ white ∷ rest))) ≡ without_comments false (words_of (tokens rest))
  words_behind =
      ap (without_comments false) (white_space_ends_words front rest white is)
      ∙ silent_front false (words_of (tokens front)) (words_of (tokens rest)) nothing.no_words

  pub clean_behind : IsClean rest → IsClean (front ++ white ∷ rest)
  clean_behind h =
      clean_lawful (front ++ white ∷ rest)
      (lawful_append front (white ∷ rest) (are_lawful front nothing.clean) (white_lawful white is, are_lawful rest h))

  pub clean_alone : IsClean (front ++ white ∷ rest) → IsClean rest
  clean_alone h =
      clean_lawful rest (all_right (λ b. is_lawful b ≡ true) front (white ∷ rest) (are_lawful (front ++ white ∷ rest) h)).1

-- ---- the laws

pub spelled_behind : SpelledBehindComments
spelled_behind front rest white db nothing is = (
  λ s. record {
    clean = clean_alone front rest white nothing is s.clean;
    statements = s.statements;
    words_are = sym (words_behind front rest white nothing is) ∙ s.words_are;
    known = s.known;
    declared = s.declared;
    whole = s.whole;
  },
  λ s. record {
    clean = clean_behind front rest white nothing is s.clean;
    statements = s.statements;
    words_are = words_behind front rest white nothing is ∙ s.words_are;
    known = s.known;
    declared = s.declared;
    whole = s.whole;
  },
)

pub declared_behind : DeclaredBehindComments
declared_behind front rest white s nothing is = (
  λ d. record {
    clean = clean_alone front rest white nothing is d.clean;
    statements = d.statements;
    words_are = sym (words_behind front rest white nothing is) ∙ d.words_are;
    declared = d.declared;
  },
  λ d. record {
    clean = clean_behind front rest white nothing is d.clean;
    statements = d.statements;
    words_are = words_behind front rest white nothing is ∙ d.words_are;
    declared = d.declared;
  },
)
