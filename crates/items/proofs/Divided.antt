-- A text that is items, token by token.
use Rattle.std.proofs.Common.{◌≡◌, ◌≢◌, ◌∙◌, ℕ, Bool, true, false, cond, List, [], ◌∷◌, Option, Some, None, codes, refl, sym, ap, subst}
use Rattle.std.specs.Prelude.{MatchOption}
use Rattle.std.specs.Option.{option_map}
use Rattle.std.specs.Str.{bytes_eq}
use Rattle.std.proofs.lemmas.Bool.{or_from}
use Rattle.mmtext.specs.declared.mark.Mark.TheVariants as mark
use Rattle.mmtext.specs.Words.{Word}
use Rattle.mmtext.specs.Text.{Token, mark_of, has_comment_mark}
use Rattle.mmtext.specs.Comments.{words_of, without_comments}
use Rattle.items.specs.Reading.{tokens_at, IsFirst, end_of}
use Rattle.items.specs.Divided.{is_mark, begins_none, divides, AreOutside, IsDividedFrom}
use Rattle.items.proofs.Kinded.{not_word}

-- ---- tests

-- where the first of two is not so, the other one is
second : {A : Type 0} (b : Bool) (x y z : A) → cond b x y ≡ z → b ≡ false → y ≡ z
second true x y z h n = absurd cc
second false x y z h n = h

-- where the first is so
first : {A : Type 0} (b : Bool) (x y z : A) → cond b x y ≡ z → b ≡ true → x ≡ z
first true x y z h is = h
first false x y z h is = absurd cc

-- a test that must fail did, and the other one holds
passed : (b y : Bool) → cond b false y ≡ true → y ≡ true
passed true y h = absurd cc
passed false y h = h

-- what is always there is there
pub there : {A : Type 0} (o : Option A) (P : Type 0) (Q : A → Type 0) → MatchOption o ⊥ Q → MatchOption o P Q
there None P Q h = absurd h
there (Some x) P Q h = h

-- words by their marks
opens_comment : (w : Word) → mark_of w ≢ mark.Comment → bytes_eq w (codes "$(") ≡ false
unfolding mark_of
opens_comment w = not_word mark.Comment w (codes "$(") refl

no_mark : (w : Word) → mark_of w ≢ mark.Opening → mark_of w ≢ mark.Closing → is_mark w ≡ false
unfolding mark_of
no_mark w not_opening not_closing =
    or_from (bytes_eq w (codes "${")) (bytes_eq w (codes "$}")) (not_word mark.Opening w (codes "${") refl not_opening)
    (not_word mark.Closing w (codes "$}") refl not_closing)

-- ---- words outside of comments

split : (w : Word) (o : Option (List Word)) (vs : List Word) → option_map (λ ws. w ∷ ws) o ≡ Some vs
    → (ws : List Word) × (vs ≡ w ∷ ws) × (o ≡ Some ws)
split w None vs h = absurd cc
split w (Some ws) vs h = let e : w ∷ ws ≡ vs = cc in (ws, sym e, refl)

not_open : (b : Bool) (o : Option (List Word)) (vs : List Word) → cond b None o ≡ Some vs → o ≡ Some vs
not_open true o vs h = absurd cc
not_open false o vs h = h

module _ (text : List ℕ) (at : ℕ) (vs : List Word) where
  -- a comment doesn't end with the text
  pub comment_goes : AreOutside true text at vs → tokens_at text at ≡ [] → ⊥
  comment_goes h none = let e : None ≡ Some vs = sym (ap (λ ts. without_comments true (words_of ts)) none) ∙ h in cc

  pub nothing_outside : AreOutside false text at vs → tokens_at text at ≡ [] → vs ≡ []
  nothing_outside h none =
      let e : Some [] ≡ Some vs = sym (ap (λ ts. without_comments false (words_of ts)) none) ∙ h in
      let same : [] ≡ vs = cc in sym same

  module _ (t : Token) (is : IsFirst text at t) where
    after : (b : Bool) → AreOutside b text at vs → without_comments b (t.text ∷ words_of (tokens_at text (end_of t))) ≡ Some vs
    after b h = sym (ap (λ ts. without_comments b (words_of ts)) is.next) ∙ h

    pub comment_left : AreOutside true text at vs → bytes_eq t.text (codes "$)") ≡ true → AreOutside false text (end_of t) vs
    comment_left h closes =
        first (bytes_eq t.text (codes "$)")) (without_comments false (words_of (tokens_at text (end_of t))))
        (cond (has_comment_mark t.text) None (without_comments true (words_of (tokens_at text (end_of t))))) (Some vs) (after true h) closes

    pub comment_on : AreOutside true text at vs → bytes_eq t.text (codes "$)") ≡ false → AreOutside true text (end_of t) vs
    comment_on h other =
        not_open (has_comment_mark t.text) (without_comments true (words_of (tokens_at text (end_of t)))) vs
        (second (bytes_eq t.text (codes "$)")) (without_comments false (words_of (tokens_at text (end_of t))))
        (cond (has_comment_mark t.text) None (without_comments true (words_of (tokens_at text (end_of t))))) (Some vs) (after true h) other)

    pub comment_entered : AreOutside false text at vs → bytes_eq t.text (codes "$(") ≡ true → AreOutside true text (end_of t) vs
    comment_entered h opens =
        first (bytes_eq t.text (codes "$(")) (without_comments true (words_of (tokens_at text (end_of t))))
        (option_map (λ ws. t.text ∷ ws) (without_comments false (words_of (tokens_at text (end_of t))))) (Some vs) (after false h) opens

    pub word_outside : AreOutside false text at vs → bytes_eq t.text (codes "$(") ≡ false
        → (ws : List Word) × (vs ≡ t.text ∷ ws) × AreOutside false text (end_of t) ws
    word_outside h other =
        split t.text (without_comments false (words_of (tokens_at text (end_of t)))) vs
        (second (bytes_eq t.text (codes "$(")) (without_comments true (words_of (tokens_at text (end_of t))))
        (option_map (λ ws. t.text ∷ ws) (without_comments false (words_of (tokens_at text (end_of t))))) (Some vs) (after false h) other)

-- ---- statements

module _ (text : List ℕ) (at : ℕ) where
  -- a statement doesn't end with the text
  pub statement_goes : IsDividedFrom true text at → tokens_at text at ≡ [] → ⊥
  statement_goes d none =
      let nothing = nothing_outside text at d.outside d.outside_are none in
      let e : divides true [] ≡ true = subst (λ vs. divides true vs ≡ true) nothing d.divided in cc

  module _ (t : Token) (is : IsFirst text at t) where
    -- a comment belongs to what it stands in
    pub comment_within : (b : Bool) (d : IsDividedFrom b text at) (end : ℕ) → AreOutside false text end d.outside → IsDividedFrom b text end
    comment_within b d end h = record { outside = d.outside; outside_are = h; divided = d.divided }

    pub statement_ends : IsDividedFrom true text at → bytes_eq t.text (codes "$(") ≡ false → bytes_eq t.text (codes "$.") ≡ true
        → IsDividedFrom false text (end_of t)
    statement_ends d opens ends =
        let r = word_outside text at d.outside t is d.outside_are opens in
        let all = subst (λ vs. divides true vs ≡ true) r.1 d.divided in
        record {
          outside = r.0;
          outside_are = r.2;
          divided = first (bytes_eq t.text (codes "$.")) (divides false r.0) (cond (is_mark t.text) false (divides true r.0)) true all ends;
        }

    pub statement_on : IsDividedFrom true text at → bytes_eq t.text (codes "$(") ≡ false → bytes_eq t.text (codes "$.") ≡ false
        → IsDividedFrom true text (end_of t)
    statement_on d opens other =
        let r = word_outside text at d.outside t is d.outside_are opens in
        let all = subst (λ vs. divides true vs ≡ true) r.1 d.divided in
        record {
          outside = r.0;
          outside_are = r.2;
          divided =
              passed (is_mark t.text) (divides true r.0)
              (second (bytes_eq t.text (codes "$.")) (divides false r.0) (cond (is_mark t.text) false (divides true r.0)) true all other);
        }

    -- no mark of a block stands in one
    pub no_mark_within : IsDividedFrom true text at → bytes_eq t.text (codes "$(") ≡ false → bytes_eq t.text (codes "$.") ≡ false
        → is_mark t.text ≡ true → ⊥
    no_mark_within d opens other marks =
        let r = word_outside text at d.outside t is d.outside_are opens in
        let all = subst (λ vs. divides true vs ≡ true) r.1 d.divided in
        let e : false ≡ true =
        first (is_mark t.text) false (divides true r.0) true
        (second (bytes_eq t.text (codes "$.")) (divides false r.0) (cond (is_mark t.text) false (divides true r.0)) true all other) marks in
        cc

    -- ---- between statements

    pub mark_over : IsDividedFrom false text at → bytes_eq t.text (codes "$(") ≡ false → is_mark t.text ≡ true
        → IsDividedFrom false text (end_of t)
    mark_over d opens marks =
        let r = word_outside text at d.outside t is d.outside_are opens in
        let all = subst (λ vs. divides false vs ≡ true) r.1 d.divided in
        record {
          outside = r.0;
          outside_are = r.2;
          divided = first (is_mark t.text) (divides false r.0) (cond (begins_none t.text) false (divides true r.0)) true all marks;
        }

    pub none_begins : IsDividedFrom false text at → bytes_eq t.text (codes "$(") ≡ false → is_mark t.text ≡ false → begins_none t.text ≡ true
        → ⊥
    none_begins d opens other begins =
        let r = word_outside text at d.outside t is d.outside_are opens in
        let all = subst (λ vs. divides false vs ≡ true) r.1 d.divided in
        let e : false ≡ true =
        first (begins_none t.text) false (divides true r.0) true
        (second (is_mark t.text) (divides false r.0) (cond (begins_none t.text) false (divides true r.0)) true all other) begins in
        cc

    pub statement_begins : IsDividedFrom false text at → bytes_eq t.text (codes "$(") ≡ false → is_mark t.text ≡ false
        → IsDividedFrom true text (end_of t)
    statement_begins d opens other =
        let r = word_outside text at d.outside t is d.outside_are opens in
        let all = subst (λ vs. divides false vs ≡ true) r.1 d.divided in
        record {
          outside = r.0;
          outside_are = r.2;
          divided =
              passed (begins_none t.text) (divides true r.0)
              (second (is_mark t.text) (divides false r.0) (cond (begins_none t.text) false (divides true r.0)) true all other);
        }

    -- ---- by what begins it

    pub opening_over : IsDividedFrom false text at → t.text ≡ codes "${" → IsDividedFrom false text (end_of t)
    opening_over d e = mark_over d (ap (λ w. bytes_eq w (codes "$(")) e) (ap is_mark e)

    pub closing_over : IsDividedFrom false text at → t.text ≡ codes "$}" → IsDividedFrom false text (end_of t)
    closing_over d e = mark_over d (ap (λ w. bytes_eq w (codes "$(")) e) (ap is_mark e)

    pub end_begins_none : IsDividedFrom false text at → t.text ≡ codes "$." → ⊥
    end_begins_none d e = none_begins d (ap (λ w. bytes_eq w (codes "$(")) e) (ap is_mark e) (ap begins_none e)

    pub proof_begins_none : IsDividedFrom false text at → t.text ≡ codes "$=" → ⊥
    proof_begins_none d e = none_begins d (ap (λ w. bytes_eq w (codes "$(")) e) (ap is_mark e) (ap begins_none e)

    pub other_begins : IsDividedFrom false text at → mark_of t.text ≢ mark.Comment → mark_of t.text ≢ mark.Opening
        → mark_of t.text ≢ mark.Closing → IsDividedFrom true text (end_of t)
    other_begins d not_comment not_opening not_closing =
        statement_begins d (opens_comment t.text not_comment) (no_mark t.text not_opening not_closing)
