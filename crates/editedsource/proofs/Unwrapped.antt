-- A text, or another one in its stead: its bytes.
use Rattle.std.proofs.Common.{◌≡◌, ℕ, Bor, List, Option, Some, None, refl, ap, Vec, Global}
use Rattle.std.specs.Option.{option_copied, option_map, unwrap_or}

pub unwrapped : (o : Option (Vec ℕ Global)) (v : Vec ℕ Global)
    → unwrap_or (option_map (λ (t : Vec ℕ Global). t.items) o) v.items ≡ (unwrap_or o v).items
unwrapped None v = refl
unwrapped (Some t) v = refl

-- one that is lent
pub lent : (r : Option (Bor (Vec ℕ Global))) (o : Option (Vec ℕ Global)) (text : List ℕ) → option_copied r ≡ o
    → unwrap_or (option_map (λ (t : Bor (Vec ℕ Global)). t.now.items) r) text
    ≡ unwrap_or (option_map (λ (t : Vec ℕ Global). t.items) o) text
lent None o text e = ap (λ o. unwrap_or (option_map (λ (t : Vec ℕ Global). t.items) o) text) e
lent (Some t) o text e = ap (λ o. unwrap_or (option_map (λ (t : Vec ℕ Global). t.items) o) text) e
