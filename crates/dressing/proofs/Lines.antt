-- What stands in white space behind its last line feed.
use Rattle.std.proofs.Common.{◌≡◌, ◌≢◌, ◌∙◌, ℕ, ◌+◌, ◌-◌, ◌<◌, ◌≤◌, true, false, cond, List, [], ◌∷◌, All, length, take, drop, get_or, sym, ap, arith}
use Rattle.std.proofs.Common.{ne_eqb}
use mathlib.Core.Bool.{not}
use Rattle.std.specs.List.{after_last, suffix_len}
use Rattle.std.proofs.lemmas.List.{drop_more, take_rest}
use Rattle.std.proofs.lemmas.List.Folds.{list_any_at, list_any_none}
use Rattle.std.proofs.lemmas.List.Sums.{suffix_len_is}
use Rattle.dressing.specs.Described.{is_line_feed, line_begin}

no_feed : (b : ℕ) → b ≢ 10 → is_line_feed b ≡ false
no_feed b n = ne_eqb b 10 n

feed : (b : ℕ) → b ≡ 10 → is_line_feed b ≡ true
feed b e = ap is_line_feed e

-- there is none
pub no_line : (space : List ℕ) → All (λ b. b ≢ 10) space → 10 ∷ [] ≡ line_begin space
no_line space none =
    ap (λ b. 10 ∷ cond b (after_last is_line_feed space) [])
    (sym (list_any_none is_line_feed space (λ k d inside. no_feed (get_or space k d) (none k d inside))))

-- the last of them stands at a place
pub at_last_line : (space : List ℕ) (i : ℕ) → i < length space → get_or space i 0 ≡ 10
    → ((k : ℕ) → i + 1 ≤ k → k < length space → get_or space k 0 ≢ 10) → take (length space - i) (drop i space) ≡ line_begin space
at_last_line space i inside here after =
    let many : suffix_len (λ b. not (is_line_feed b)) space ≡ length space - (i + 1) =
    suffix_len_is (λ b. not (is_line_feed b)) space (i + 1) 0 (omega arith) (λ k le lt. ap not (no_feed (get_or space k 0) (after k le lt)))
    (λ pos.
    ap (λ j. not (is_line_feed (get_or space j 0))) (let e : i + 1 - 1 ≡ i = omega arith in e) ∙ ap not (feed (get_or space i 0) here))
    in
    let behind : i + 1 ≡ length space - suffix_len (λ b. not (is_line_feed b)) space = omega (arith, many, inside) in
    take_rest space i
    ∙ (drop_more space i 0 inside
    ∙ (ap (λ b. b ∷ drop (i + 1) space) here
    ∙ (ap (λ j. 10 ∷ drop j space) behind
    ∙ ap (λ b. 10 ∷ cond b (after_last is_line_feed space) [])
    (sym (list_any_at is_line_feed space i 0 inside (feed (get_or space i 0) here))))))
