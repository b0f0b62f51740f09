-- Items at places of a text, one behind the other.
use Rattle.std.proofs.Common.{◌≡◌, ℕ, List, [], ◌∷◌, ◌++◌, refl, sym, ap, subst}
use Rattle.mmtext.specs.Text.{Token}
use Rattle.items.specs.Items.{Item, words}
use Rattle.items.specs.Reading.{IsFirst, piece_at, end_of, Stands}

-- one token
pub stands_one : (text : List ℕ) (at : ℕ) (t : Token) → IsFirst text at t → Stands text at (piece_at text at t ∷ []) (end_of t)
stands_one text at t first = (t, first, refl, refl)

-- one item behind another
pub stands_both : (text : List ℕ) (at mid end : ℕ) (xs ys : Item) → Stands text at xs mid → Stands text mid ys end
    → Stands text at (xs ++ ys) end
stands_both text at mid end [] ys h k = subst (λ m. Stands text m ys end) (sym h) k
stands_both text at mid end (p ∷ ps) ys h k = (h.0, h.1, h.2, stands_both text (end_of h.0) mid end ps ys h.3 k)

pub stands_more : (text : List ℕ) (from at : ℕ) (xs : Item) (t : Token) → Stands text from xs at → IsFirst text at t
    → Stands text from (xs ++ piece_at text at t ∷ []) (end_of t)
stands_more text from at xs t h first = stands_both text from at (end_of t) xs (piece_at text at t ∷ []) h (stands_one text at t first)

pub words_both : (xs ys : Item) → words (xs ++ ys) ≡ words xs ++ words ys
words_both [] ys = refl
words_both (p ∷ ps) ys = ap (λ ws. p.word ∷ ws) (words_both ps ys)
