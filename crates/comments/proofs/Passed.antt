-- What is known of a comment behind one more token of it.
use Rattle.std.proofs.Common.{◌≡◌, ◌∙◌, ℕ, ◌+◌, ◌≤◌, Bool, true, false, cond, List, [], ◌∷◌, ◌++◌, length, Some, None}
use Rattle.std.proofs.Common.{codes, refl, sym, ap, arith}
use mathlib.Core.Bool.{not}
use Rattle.std.specs.Str.{bytes_eq}
use Rattle.std.proofs.lemmas.List.{append_assoc}
use Rattle.std.proofs.lemmas.List.Elements.{All-nil, All-push, All-weaker}
use Rattle.mmtext.specs.Words.{Word}
use Rattle.mmtext.specs.Text.{Token}
use Rattle.comments.specs.Comments.{comments_from}
use Rattle.comments.specs.Outside.{outside, in_comment_behind, EndBy}
use Rattle.comments.specs.Passing.{IsPassing, closed_then, IsClosed}
use Rattle.comments.specs.Walks.{comment_of}
use Rattle.comments.proofs.Opened.{outside_none, behind-append, outside-append}

pub end_later : (at end : ℕ) (ts : List Token) → at ≤ end → EndBy at ts → EndBy end ts
end_later at end ts le h =
    All-weaker (λ (t : Token). t.place + length t.text ≤ at) (λ (t : Token). t.place + length t.text ≤ end) (λ t l. omega arith) ts h

not_none : (b : Bool) → in_comment_behind (not b) [] ≡ not b
not_none true = refl
not_none false = refl

closes : (stating : Bool) (ws : List Word) (left : List Token) (t : Token) → bytes_eq t.text (codes "$)") ≡ true
    → comments_from stating (Some ws) (t ∷ left) ≡ closed_then stating ws left
closes true ws left t is = ap (λ b. cond b (comments_from true None left) (comments_from true (Some ws) left)) is
closes false ws left t is =
    ap (λ b. cond b (comment_of ws left ∷ comments_from false None left) (comments_from false (Some (ws ++ t.text ∷ [])) left)) is

pub nothing_passed : (stating : Bool) (ts : List Token) (at : ℕ) → IsPassing stating [] ts ts at
nothing_passed stating ts at = record {
  body = [];
  stands = refl;
  still = refl;
  nothing = refl;
  passed = All-nil (λ (t : Token). t.place + length t.text ≤ at);
  same = refl;
}

module _ (stating : Bool) (words : List Word) (ts ys left : List Token) (at : ℕ) (t : Token) (le : at ≤ t.place + length t.text)
    (next : ys ≡ t ∷ left) (p : IsPassing stating words ts ys at) where
  now_behind : (b : Bool) → bytes_eq t.text (codes "$)") ≡ b → in_comment_behind true (p.body ++ t ∷ []) ≡ not b
  now_behind b is =
      behind-append true p.body (t ∷ [])
      ∙ ap (λ c. in_comment_behind c (t ∷ [])) p.still
      ∙ ap (λ v. in_comment_behind (not v) []) is
      ∙ not_none b

  still_nothing : outside true (p.body ++ t ∷ []) ≡ []
  still_nothing =
      outside-append true p.body (t ∷ [])
      ∙ ap (λ us. us ++ outside (in_comment_behind true p.body) (t ∷ [])) p.nothing
      ∙ ap (λ c. outside c (t ∷ [])) p.still
      ∙ outside_none (not (bytes_eq t.text (codes "$)")))

  all_stand : ts ≡ (p.body ++ t ∷ []) ++ left
  all_stand = p.stands ∙ ap (λ us. p.body ++ us) next ∙ sym (append_assoc p.body (t ∷ []) left)

  all_end : EndBy (t.place + length t.text) (p.body ++ t ∷ [])
  all_end =
      let end = t.place + length t.text in
      All-push (λ (u : Token). u.place + length u.text ≤ end) p.body t (end_later at end p.body (omega arith) p.passed) (omega arith)

  passes : (more : List Word) → bytes_eq t.text (codes "$)") ≡ false
      → comments_from stating (Some words) (t ∷ left) ≡ comments_from stating (Some more) left
      → IsPassing stating more ts left (t.place + length t.text)
  passes more other goes_on = record {
    body = p.body ++ t ∷ [];
    stands = all_stand;
    still = now_behind false other;
    nothing = still_nothing;
    passed = all_end;
    same = p.same ∙ ap (λ us. comments_from stating (Some words) us) next ∙ goes_on;
  }

  -- $)
  pub ends_comment : bytes_eq t.text (codes "$)") ≡ true → IsClosed stating words ts left (t.place + length t.text)
  ends_comment is = record {
    body = p.body ++ t ∷ [];
    stands = all_stand;
    closed = now_behind true is;
    nothing = still_nothing;
    passed = all_end;
    same = p.same ∙ ap (λ us. comments_from stating (Some words) us) next ∙ closes stating words left t is;
  }

-- a word in a statement, and between statements
module _ (ts ys left : List Token) (at : ℕ) (t : Token) (le : at ≤ t.place + length t.text) (next : ys ≡ t ∷ left)
    (other : bytes_eq t.text (codes "$)") ≡ false) where
  pub passes_word : IsPassing true [] ts ys at → IsPassing true [] ts left (t.place + length t.text)
  passes_word p =
      passes true [] ts ys left at t le next p [] other
      (ap (λ b. cond b (comments_from true None left) (comments_from true (Some []) left)) other)

  pub reads_word : (ws : List Word) → IsPassing false ws ts ys at → IsPassing false (ws ++ t.text ∷ []) ts left (t.place + length t.text)
  reads_word ws p =
      passes false ws ts ys left at t le next p (ws ++ t.text ∷ []) other
      (ap (λ b. cond b (comment_of ws left ∷ comments_from false None left) (comments_from false (Some (ws ++ t.text ∷ [])) left)) other)
