-- Items behind one more token.
use Rattle.std.proofs.Common.{◌≡◌, ◌∙◌, ℕ, Bool, false, List, [], ◌∷◌, ◌++◌, Option, Some, None, codes, refl, sym, ap, subst}
use Rattle.std.proofs.Common.{append_assoc}
use Rattle.std.specs.Option.{unwrap_or}
use Rattle.std.specs.Prelude.{◌||◌}
use Rattle.std.specs.List.{list_any}
use Rattle.std.specs.Str.{bytes_eq}
use Rattle.std.proofs.lemmas.List.Folds.{list_any-append}
use Rattle.mmtext.specs.Words.{Word}
use Rattle.mmtext.specs.Text.{Token}
use Rattle.items.specs.Items.{Item, words, outside, is_open_behind, ends_statement, asserts}
use Rattle.items.specs.Reading.{IsFirst, piece_at, end_of, Stands, IsCommentTo, IsStatementTo, IsFrontTo, IsPassed, IsAssertingIf, first_asserts}
use Rattle.items.proofs.Standing.{stands_more, stands_both, words_both}
use Rattle.items.proofs.Commented.{comment_leaves, comment_adds_nothing, word_leaves, word_is_said}

-- ---- comments

abbrev closing : Word → Bool
closing w = bytes_eq w (codes "$)")

pub comment_ends : (text : List ℕ) (from at : ℕ) (left : Item) (t : Token) → Stands text from left at → list_any closing (words left) ≡
    false
    → IsFirst text at t → t.text ≡ codes "$)" → IsCommentTo text from (end_of t)
comment_ends text from at left t stands none first is = record {
  left = left ++ piece_at text at t ∷ [];
  stands = stands_more text from at left t stands first;
  body = words left;
  whole = words_both left (piece_at text at t ∷ []) ∙ ap (λ w. words left ++ w ∷ []) is;
  inside = none;
}

none_more : (test : Word → Bool) (ws : List Word) (w : Word) → list_any test ws ≡ false → test w ≡ false → list_any test (ws ++ w ∷ []) ≡
    false
none_more test ws w none not_it =
    list_any-append test ws (w ∷ []) ∙ ap (λ b. b || (test w || false)) none ∙ ap (λ b. b || false) not_it

pub comment_goes_on : (text : List ℕ) (from at : ℕ) (left : Item) (t : Token) → Stands text from left at
    → list_any closing (words left) ≡ false → IsFirst text at t → closing t.text ≡ false
    → (more : Item) × Stands text from more (end_of t) × (list_any closing (words more) ≡ false)
comment_goes_on text from at left t stands none first other = (
  left ++ piece_at text at t ∷ [],
  stands_more text from at left t stands first,
  ap (list_any closing) (words_both left (piece_at text at t ∷ [])) ∙ none_more closing (words left) t.text none other,
)

-- ---- statements

-- a comment
module _ (test : Word → Bool) (text : List ℕ) (from at : ℕ) (t : Token) (p : IsPassed test text from at) (is : IsFirst text at t) where
  module _ (end : ℕ) (opens : t.text ≡ codes "$(") (c : IsCommentTo text (end_of t) end) where
    with_comment : words ((p.left ++ piece_at text at t ∷ []) ++ c.left) ≡ words p.left ++ codes "$(" ∷ (c.body ++ codes "$)" ∷ [])
    with_comment =
        ap words (append_assoc p.left (piece_at text at t ∷ []) c.left)
        ∙ (words_both p.left (piece_at text at t ∷ c.left)
        ∙ (ap (λ w. words p.left ++ w ∷ words c.left) opens ∙ ap (λ ws. words p.left ++ codes "$(" ∷ ws) c.whole))

    pub comment_said : outside false (words ((p.left ++ piece_at text at t ∷ []) ++ c.left)) ≡ outside false (words p.left)
    comment_said = ap (outside false) with_comment ∙ comment_adds_nothing (words p.left) c.body p.closed c.inside

    pub comment_passed : IsPassed test text from end
    comment_passed = record {
      left = (p.left ++ piece_at text at t ∷ []) ++ c.left;
      stands = stands_both text from (end_of t) end (p.left ++ piece_at text at t ∷ []) c.left (stands_more text from at p.left t p.stands
          is) c.stands;
      closed = ap (is_open_behind false) with_comment ∙ comment_leaves (words p.left) c.body p.closed c.inside;
      inside = ap (list_any test) comment_said ∙ p.inside;
    }

  module _ (opens : bytes_eq t.text (codes "$(") ≡ false) (other : test t.text ≡ false) where
    pub word_said : outside false (words (p.left ++ piece_at text at t ∷ [])) ≡ outside false (words p.left) ++ t.text ∷ []
    word_said =
        ap (outside false) (words_both p.left (piece_at text at t ∷ [])) ∙ word_is_said (words p.left) t.text p.closed opens

    pub word_passed : IsPassed test text from (end_of t)
    word_passed = record {
      left = p.left ++ piece_at text at t ∷ [];
      stands = stands_more text from at p.left t p.stands is;
      closed = ap (is_open_behind false) (words_both p.left (piece_at text at t ∷ [])) ∙ word_leaves (words p.left) t.text p.closed opens;
      inside = ap (list_any test) word_said ∙ none_more test (outside false (words p.left)) t.text p.inside other;
    }

-- none yet
pub nothing_passed : (test : Word → Bool) (text : List ℕ) (from : ℕ) → IsPassed test text from from
nothing_passed test text from = record { left = []; stands = refl; closed = refl; inside = refl }

-- ---- whether a statement is an assertion

first_more : (ws : List Word) (w : Word) (first : Option Bool) → IsAssertingIf ws first
    → IsAssertingIf (ws ++ w ∷ []) (Some (unwrap_or first (asserts w)))
first_more [] w None h = refl
first_more (v ∷ vs) w None h = absurd cc
first_more [] w (Some b) h = absurd h
first_more (v ∷ vs) w (Some b) h = h

abbrev pub IsBegun : List ℕ → ℕ → ℕ → Option Bool → Type 0
IsBegun text from at first = (p : IsPassed ends_statement text from at) × IsAssertingIf (outside false (words p.left)) first

pub nothing_begun : (text : List ℕ) (from : ℕ) → IsBegun text from from None
unfolding nothing_passed
nothing_begun text from = (nothing_passed ends_statement text from, refl)

module _ (text : List ℕ) (from at : ℕ) (first : Option Bool) (t : Token) (p : IsBegun text from at first) (is : IsFirst text at t) where
  pub comment_begun : (end : ℕ) → t.text ≡ codes "$(" → IsCommentTo text (end_of t) end → IsBegun text from end first
  unfolding comment_passed
  comment_begun end opens c = (
    comment_passed ends_statement text from at t p.0 is end opens c,
    subst (λ ws. IsAssertingIf ws first) (sym (comment_said ends_statement text from at t p.0 is end opens c)) p.1,
  )

  pub word_begun : (b : Bool) → b ≡ unwrap_or first (asserts t.text) → bytes_eq t.text (codes "$(") ≡ false → ends_statement t.text ≡ false
      → IsBegun text from (end_of t) (Some b)
  unfolding word_passed
  word_begun b e opens other = (
    word_passed ends_statement text from at t p.0 is opens other,
    subst (λ ws. IsAssertingIf ws (Some b)) (sym (word_said ends_statement text from at t p.0 is opens other))
        (subst (λ b. IsAssertingIf (outside false (words p.0.left) ++ t.text ∷ []) (Some b)) (sym e)
        (first_more (outside false (words p.0.left)) t.text first p.1)),
  )

-- its end
asserts_then : (ws : List Word) (first : Option Bool) → IsAssertingIf ws first → first_asserts ws ≡ unwrap_or first false
asserts_then [] None h = refl
asserts_then (v ∷ vs) None h = absurd cc
asserts_then [] (Some b) h = absurd h
asserts_then (v ∷ vs) (Some b) h = h

pub statement_ends : (text : List ℕ) (from at : ℕ) (first : Option Bool) (t : Token) → IsBegun text from at first → IsFirst text at t
    → t.text ≡ codes "$." → IsStatementTo text from (end_of t) (unwrap_or first false)
statement_ends text from at first t (p, asserting) is ends = record {
  left = p.left ++ piece_at text at t ∷ [];
  stands = stands_more text from at p.left t p.stands is;
  front = words p.left;
  whole = words_both p.left (piece_at text at t ∷ []) ∙ ap (λ w. words p.left ++ w ∷ []) ends;
  closed = p.closed;
  inside = p.inside;
  asserts = asserts_then (outside false (words p.left)) first asserting;
}

-- ---- the $= of a theorem

pub front_ends : (text : List ℕ) (from at : ℕ) (t : Token) → IsPassed (λ w. bytes_eq w (codes "$=")) text from at → IsFirst text at t
    → bytes_eq t.text (codes "$(") ≡ false → t.text ≡ codes "$=" → IsFrontTo text from (end_of t)
front_ends text from at t p is opens ends =
    let all = words_both p.left (piece_at text at t ∷ []) in record {
      front = p.left ++ piece_at text at t ∷ [];
      stands = stands_more text from at p.left t p.stands is;
      is_front = record {
        says = outside false (words p.left);
        whole = ap (outside false) all ∙ (word_is_said (words p.left) t.text p.closed opens ∙ ap (λ w. outside false (words p.left) ++ w ∷
            []) ends);
        first = p.inside;
        closed = ap (is_open_behind false) all ∙ word_leaves (words p.left) t.text p.closed opens;
      };
    }
