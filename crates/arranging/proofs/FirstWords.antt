-- The first words of a comment.
use Rattle.std.proofs.Common.{◌≡◌, ◌∙◌, ℕ, List, [], ◌∷◌, ◌++◌, codes, drop, sym, ap}
use Rattle.mmtext.specs.Words.{Word}
use Rattle.mmtext.specs.Text.{Token}
use Rattle.items.specs.Items.{Item, IsComment}
use Rattle.items.specs.Reading.{tokens_at, end_of, IsFirst, Stands}
use Rattle.arranging.specs.Parts.{is_rule, is_heading}

-- a text begins behind a place with two tokens
pub record BeginsWith (text : List ℕ) (from : ℕ) (x : Item) : Type 0 where
  pub opening : Token
  pub word : Token
  pub first : IsFirst text from opening
  pub second : IsFirst text (end_of opening) word
  pub heading : is_rule word.text ≡ is_heading x

no_end : (ws : List Word) (w : Word) → [] ≡ ws ++ w ∷ [] → ⊥
no_end [] w e = absurd cc
no_end (v ∷ ws) w e = absurd cc

pub begins_with : (text : List ℕ) (from end : ℕ) (x : Item) → Stands text from x end → IsComment x → BeginsWith text from x
begins_with text from end [] h is = let e = is.whole in absurd cc
begins_with text from end (p ∷ []) h is = absurd (no_end is.body (codes "$)") (ap (λ ws. drop 1 ws) is.whole))
begins_with text from end (p ∷ q ∷ ps) h is = record {
  opening = h.0;
  word = h.3.0;
  first = h.1;
  second = h.3.1;
  heading = ap (λ r. is_rule r.word) (sym h.3.2);
}

module _ (text : List ℕ) (at : ℕ) (t : Token) (is : IsFirst text at t) where
  pub same_first : (u : Token) (us : List Token) → tokens_at text at ≡ u ∷ us → t ≡ u
  same_first u us e = let both = sym is.next ∙ e in cc

  pub not_last : tokens_at text at ≡ [] → ⊥
  not_last e = let both = sym is.next ∙ e in absurd cc
