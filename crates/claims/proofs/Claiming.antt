-- One past all numbers that were claimed: it comes nearer to the count with each claim.
use Rattle.std.proofs.Common.{◌≡◌, ℕ, ◌+◌, ◌-◌, ◌<◌, ◌≤◌, List, [], ◌∷◌, ◌++◌, ap, arith}
use Rattle.std.specs.Prelude.{All, max}
use Rattle.std.proofs.lemmas.List.Elements.{All-head, All-tail}
use Rattle.claims.specs.Claims.{Counting, Claimant, Claims}

abbrev pub past_all : List ℕ → ℕ
past_all [] = 0
past_all (n ∷ ns) = max (n + 1) (past_all ns)

past_below : (ns : List ℕ) (n : ℕ) → All (λ m. m < n) ns → past_all ns ≤ n
past_below [] n below = omega arith
past_below (m ∷ ns) n below =
    let first = All-head (λ m. m < n) m ns below in
    let others = past_below ns n (All-tail (λ m. m < n) m ns below) in
    omega arith

past_last : (ns : List ℕ) (n : ℕ) → n < past_all (ns ++ n ∷ [])
past_last [] n = omega arith
past_last (m ∷ ns) n = let others = past_last ns n in omega arith

pub claim_nears : (home : Counting) (n : ℕ) (old new : Claimant) → Claims home n old new
    → home.count - past_all new.claimed < home.count - past_all old.claimed
claim_nears home n old new claims =
    let before = past_below old.claimed n claims.later in
    let behind = past_last old.claimed n in
    let is : past_all new.claimed ≡ past_all (old.claimed ++ n ∷ []) = ap (λ (c : Claimant). past_all c.claimed) claims.is in
    let below = claims.below in
    omega arith
