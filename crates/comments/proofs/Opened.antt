-- Where comments are open, and which tokens stand outside of them, in tokens one behind the other.
use Rattle.std.proofs.Common.{◌≡◌, ◌∙◌, ℕ, Bool, true, false, cond, List, [], ◌∷◌, ◌++◌, codes, refl, sym, ap}
use mathlib.Core.Bool.{not}
use Rattle.std.specs.Str.{bytes_eq}
use Rattle.std.proofs.lemmas.List.{append_assoc}
use Rattle.mmtext.specs.Text.{Token}
use Rattle.comments.specs.Outside.{outside, in_comment_behind, IsNext, IsPassedOver}
use Rattle.comments.specs.Passing.{IsClosed}

behind_none : (c : Bool) → in_comment_behind c [] ≡ c
behind_none true = refl
behind_none false = refl

pub outside_none : (c : Bool) → outside c [] ≡ []
outside_none true = refl
outside_none false = refl

pub behind-append : (c : Bool) (xs ys : List Token) → in_comment_behind c (xs ++ ys) ≡ in_comment_behind (in_comment_behind c xs) ys
behind-append true [] ys = refl
behind-append false [] ys = refl
behind-append true (x ∷ xs) ys = behind-append (not (bytes_eq x.text (codes "$)"))) xs ys
behind-append false (x ∷ xs) ys = behind-append (bytes_eq x.text (codes "$(")) xs ys

-- behind a token that may open a comment
either : (b : Bool) (x : Token) (xs ys : List Token) → outside true (xs ++ ys) ≡ outside true xs ++ outside (in_comment_behind true xs) ys
    → outside false (xs ++ ys) ≡ outside false xs ++ outside (in_comment_behind false xs) ys
    → cond b (outside true (xs ++ ys)) (x ∷ outside false (xs ++ ys))
    ≡ cond b (outside true xs) (x ∷ outside false xs) ++ outside (in_comment_behind b xs) ys
either true x xs ys inside out = inside
either false x xs ys inside out = ap (λ us. x ∷ us) out

pub outside-append : (c : Bool) (xs ys : List Token) → outside c (xs ++ ys) ≡ outside c xs ++ outside (in_comment_behind c xs) ys
outside-append true [] ys = refl
outside-append false [] ys = refl
outside-append true (x ∷ xs) ys = outside-append (not (bytes_eq x.text (codes "$)"))) xs ys
outside-append false (x ∷ xs) ys =
    either (bytes_eq x.text (codes "$(")) x xs ys (outside-append true xs ys) (outside-append false xs ys)

-- ---- behind tokens that end outside of comments

module _ (front : List Token) (closed : in_comment_behind false front ≡ false) where
  pub outside_then : (ys : List Token) → outside false (front ++ ys) ≡ outside false front ++ outside false ys
  outside_then ys = outside-append false front ys ∙ ap (λ c. outside false front ++ outside c ys) closed

  pub closed_then : (ys : List Token) → in_comment_behind false ys ≡ false → in_comment_behind false (front ++ ys) ≡ false
  closed_then ys then = behind-append false front ys ∙ ap (λ c. in_comment_behind c ys) closed ∙ then

  module _ (t : Token) (other : bytes_eq t.text (codes "$(") ≡ false) where
    pub closed_one : in_comment_behind false (front ++ t ∷ []) ≡ false
    closed_one = closed_then (t ∷ []) (behind_none (bytes_eq t.text (codes "$(")) ∙ other)

    pub outside_one : outside false (front ++ t ∷ []) ≡ outside false front ++ t ∷ []
    outside_one = outside_then (t ∷ []) ∙ ap (λ b. outside false front ++ cond b (outside true []) (t ∷ outside false [])) other

-- ---- tokens that are passed over

pub none_passed : (ts : List Token) → IsPassedOver ts ts
none_passed ts = record { skipped = []; stands = refl; closed = refl; nothing = refl }

-- what stands outside of comments from the next token there on
pub next_is : (ts left : List Token) (t : Token) → IsNext ts left t → outside false ts ≡ t ∷ outside false left
next_is ts left t n =
    ap (outside false) n.stands
    ∙ outside_then n.skipped n.closed (t ∷ left)
    ∙ ap (λ us. us ++ outside false (t ∷ left)) n.nothing
    ∙ ap (λ b. cond b (outside true left) (t ∷ outside false left)) n.opens_none

-- a comment more
pub passed_more : (ts ys inside left : List Token) (t : Token) (end : ℕ) → IsPassedOver ts ys → ys ≡ t ∷ inside
    → bytes_eq t.text (codes "$(") ≡ true → IsClosed true [] inside left end → IsPassedOver ts left
passed_more ts ys inside left t end p next opens h =
    let all : ys ≡ (t ∷ h.body) ++ left = next ∙ ap (λ us. t ∷ us) h.stands in record {
      skipped = p.skipped ++ t ∷ h.body;
      stands = p.stands ∙ ap (λ us. p.skipped ++ us) all ∙ sym (append_assoc p.skipped (t ∷ h.body) left);
      closed = closed_then p.skipped p.closed (t ∷ h.body) (ap (λ b. in_comment_behind b h.body) opens ∙ h.closed);
      nothing =
          outside_then p.skipped p.closed (t ∷ h.body)
          ∙ ap (λ us. us ++ outside false (t ∷ h.body)) p.nothing
          ∙ ap (λ b. cond b (outside true h.body) (t ∷ outside false h.body)) opens
          ∙ h.nothing;
    }
