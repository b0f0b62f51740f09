-- A quoted word by its first byte and the others.
use Rattle.std.proofs.Common.{◌≡◌, ◌∙◌, ℕ, ◌<◌, ◌-◌, true, cond, List, [], ◌∷◌, length, take, drop, get_or, Option, None, sym, ap, arith}
use Rattle.std.specs.Prelude.{◌==◌, position}
use Rattle.std.specs.Option.{option_map}
use Rattle.std.proofs.lemmas.List.{take_rest}
use Rattle.commentwords.specs.Words.{Parts, is_quote, label_up_to, unquoted}

abbrev pub parts_at : List ℕ → List ℕ → ℕ → Parts
parts_at front bs n = record { front = front; label = take n bs; back = drop n bs }

from_mark : (b : ℕ) (bs : List ℕ) (end : Option ℕ) → is_quote b ≡ true → end ≡ position (λ c. c == b) bs
    → option_map (parts_at (b ∷ []) bs) end ≡ unquoted (b ∷ bs)
from_mark b bs end quote is =
    ap (option_map (parts_at (b ∷ []) bs)) is ∙ sym (ap (λ q. cond q (label_up_to b bs) None) quote)

-- the label ends where the mark stands once more
pub mark_again : (w : List ℕ) → 0 < length w → is_quote (get_or w 0 0) ≡ true → (end : Option ℕ)
    → end ≡ position (λ c. c == get_or w 0 0) (take (length w - 1) (drop 1 w))
    → option_map (parts_at (take 1 w) (take (length w - 1) (drop 1 w))) end ≡ unquoted w
mark_again [] some quote end is = absurd (omega (arith, some))
mark_again (b ∷ bs) some quote end is =
    let rest : take (length (b ∷ bs) - 1) bs ≡ bs = take_rest (b ∷ bs) 1 in
    ap (λ cs. option_map (parts_at (b ∷ []) cs) end) rest
    ∙ from_mark b bs end quote (is ∙ ap (position (λ c. c == b)) rest)
