-- What an item is, by its first words.
use Rattle.std.proofs.Common.{◌≡◌, ◌≢◌, ◌∙◌, ℕ, Bool, true, false, cond, List, [], ◌∷◌, ◌++◌, codes, refl, ap, inl, inr}
use Rattle.std.specs.Prelude.{◌||◌}
use Rattle.std.specs.List.{list_any}
use Rattle.std.specs.Str.{bytes_eq}
use Rattle.std.proofs.lemmas.Bool.{cases_Bool}
use Rattle.mmtext.specs.declared.mark.Mark.{Mark}
use Rattle.mmtext.specs.declared.mark.Mark.TheVariants as mark
use Rattle.mmtext.specs.Words.{Word}
use Rattle.mmtext.specs.Text.{Token, mark_of}
use Rattle.mmtext.proofs.Marks.{same_word}
use Rattle.items.specs.Items.{words, outside, is_open_behind, ends_statement, label_among, label_of, IsComment, IsStatement}
use Rattle.items.specs.Reading.{piece_at, end_of, IsCommentTo, IsStatementTo, first_asserts}
use Rattle.items.proofs.Commented.{outside_both}

-- a word with another mark is another word
pub not_word : (k : Mark) (w v : Word) → mark_of v ≡ k → mark_of w ≢ k → bytes_eq w v ≡ false
not_word k w v is differs = elim (cases_Bool (bytes_eq w v)) [
  | inl y ↦ absurd (differs (ap mark_of (same_word w v y) ∙ is))
  | inr n ↦ n
]

opens_none : (w : Word) → mark_of w ≢ mark.Comment → bytes_eq w (codes "$(") ≡ false
unfolding mark_of
opens_none w = not_word mark.Comment w (codes "$(") refl

ends_none : (w : Word) → mark_of w ≢ mark.End → bytes_eq w (codes "$.") ≡ false
unfolding mark_of
ends_none w = not_word mark.End w (codes "$.") refl

opens_no_block : (w : Word) → mark_of w ≢ mark.Opening → bytes_eq w (codes "${") ≡ false
unfolding mark_of
opens_no_block w = not_word mark.Opening w (codes "${") refl

closes_no_block : (w : Word) → mark_of w ≢ mark.Closing → bytes_eq w (codes "$}") ≡ false
unfolding mark_of
closes_no_block w = not_word mark.Closing w (codes "$}") refl

pub begins_no_proof : (w : Word) → mark_of w ≢ mark.Proof → bytes_eq w (codes "$=") ≡ false
unfolding mark_of
begins_no_proof w = not_word mark.Proof w (codes "$=") refl

pub none_of : (a b c : Bool) → a ≡ false → b ≡ false → c ≡ false → (a || (b || (c || false))) ≡ false
none_of a b c ea eb ec = ap (λ x. x || (b || (c || false))) ea ∙ (ap (λ x. x || (c || false)) eb ∙ ap (λ x. x || false) ec)

-- ---- a comment

pub is_comment : (text : List ℕ) (from end : ℕ) (t : Token) → t.text ≡ codes "$(" → (c : IsCommentTo text (end_of t) end)
    → IsComment (piece_at text from t ∷ c.left)
is_comment text from end t is c = record {
  body = c.body;
  whole = ap (λ w. w ∷ words c.left) is ∙ ap (λ ws. codes "$(" ∷ ws) c.whole;
  inside = c.inside;
}

-- ---- a statement

label_by : (label : Word) (front : List Word) (b : Bool) → first_asserts front ≡ b
    → label_among (label ∷ (front ++ codes "$." ∷ [])) ≡ cond b (label ∷ []) []
label_by label [] b e = ap (λ b. cond b (label ∷ []) []) e
label_by label (w ∷ ws) b e = ap (λ b. cond b (label ∷ []) []) e

module _ (text : List ℕ) (from end : ℕ) (t : Token) (b : Bool) (s : IsStatementTo text (end_of t) end b)
    (not_comment : mark_of t.text ≢ mark.Comment) where
  opens : bytes_eq t.text (codes "$(") ≡ false
  opens = opens_none t.text not_comment

  whole : words (piece_at text from t ∷ s.left) ≡ t.text ∷ (s.front ++ codes "$." ∷ [])
  whole = ap (λ ws. t.text ∷ ws) s.whole

  outside_first : (ws : List Word) → outside false (t.text ∷ ws) ≡ t.text ∷ outside false ws
  outside_first ws = ap (λ b. cond b (outside true ws) (t.text ∷ outside false ws)) opens

  pub is_statement : mark_of t.text ≢ mark.Opening → mark_of t.text ≢ mark.Closing → mark_of t.text ≢ mark.End
      → IsStatement (piece_at text from t ∷ s.left)
  is_statement not_opening not_closing not_end = record {
    front = t.text ∷ s.front;
    whole = whole;
    begins = ap (λ b. b || false) opens;
    closed = ap (λ b. is_open_behind b s.front) opens ∙ s.closed;
    inside =
        ap (list_any ends_statement) (outside_first s.front)
        ∙ (ap (λ b. b || list_any ends_statement (outside false s.front))
        (none_of (bytes_eq t.text (codes "$.")) (bytes_eq t.text (codes "${")) (bytes_eq t.text (codes "$}")) (ends_none t.text not_end)
        (opens_no_block t.text not_opening) (closes_no_block t.text not_closing))
        ∙ s.inside);
  }

  pub has_label : label_of (piece_at text from t ∷ s.left) ≡ cond b (t.text ∷ []) []
  has_label =
      ap (λ ws. label_among (outside false ws)) whole
      ∙ (ap label_among (outside_first (s.front ++ codes "$." ∷ []))
      ∙ (ap (λ ws. label_among (t.text ∷ ws)) (outside_both false s.front (codes "$." ∷ [])
      ∙ ap (λ b. outside false s.front ++ outside b (codes "$." ∷ [])) s.closed)
      ∙ label_by t.text (outside false s.front) b s.asserts))
