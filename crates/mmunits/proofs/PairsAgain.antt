-- To put a pair that stands changes nothing, also once another is put.
use Rattle.std.proofs.Common.{◌≡◌, ℕ, suc, ◌<◌, Bool, true, false, cond, List, [], ◌∷◌, length, get_or}
use Rattle.std.proofs.Common.{refl, sym, ap, subst, eqb, arith}
use Rattle.std.specs.Prelude.{◌&&◌}
use Rattle.std.proofs.lemmas.Bool.Decides.{nat_tests}
use Rattle.std.proofs.lemmas.List.Elements.{All-weaker}
use Rattle.mmsyntax.specs.Blocks.{with_pair, is_pair_below, is_same_pair}
use Rattle.mmunits.specs.StandingPairs.{StandAmong}

-- ---- the order of pairs

same_itself : (p : ℕ × ℕ) → is_same_pair p p ≡ true
same_itself p = grind (arith, nat_tests)

same_not_below : (p q : ℕ × ℕ) → is_same_pair p q ≡ true → is_pair_below p q ≡ false
same_not_below p q h = grind (arith, nat_tests)

below_below : (p q r : ℕ × ℕ) → is_pair_below p q ≡ true → is_pair_below q r ≡ true → is_pair_below p r ≡ true
below_below p q r h k = grind (arith, nat_tests)

-- ---- one pair

-- what holds of each of three lists, where it is come to, holds of the one that is picked
picked : (P : List (ℕ × ℕ) → Type 0) (b c : Bool) (x y z : List (ℕ × ℕ)) → (b ≡ true → P x) → (c ≡ true → P y)
    → (b ≡ false → c ≡ false → P z) → P (cond b x (cond c y z))
picked P true c x y z f g h = f refl
picked P false true x y z f g h = g refl
picked P false false x y z f g h = h refl refl

-- a pair that stands doesn't come before the first
not_first : (b c : Bool) (p x : ℕ × ℕ) (xs w : List (ℕ × ℕ)) → (b ≡ true → c ≡ false)
    → cond b (x ∷ xs) (cond c (p ∷ x ∷ xs) (x ∷ w)) ≡ x ∷ xs → c ≡ false
not_first b false p x xs w f h = refl
not_first true true p x xs w f h = f refl
not_first false true p x xs w f h = let e : suc (suc (length xs)) ≡ suc (length xs) = ap length h in absurd (omega arith)

-- it is the first or stands among the rest
same_or_rest : (b c : Bool) (p x : ℕ × ℕ) (xs w vs ws : List (ℕ × ℕ)) → c ≡ false → cond b (x ∷ xs) (cond c (p ∷ x ∷ xs) (x ∷ w)) ≡ x ∷ xs
    → (w ≡ xs → ws ≡ vs) → cond b (x ∷ vs) (cond c (p ∷ x ∷ vs) (x ∷ ws)) ≡ x ∷ vs
same_or_rest true c p x xs w vs ws f h k = refl
same_or_rest false false p x xs w vs ws f h k = ap (λ rest. x ∷ rest) (k (let e : w ≡ xs = cc in e))
same_or_rest false true p x xs w vs ws f h k = absurd (let e : true ≡ false = f in cc)

-- before a list in which it stands
before : (b c : Bool) (p q : ℕ × ℕ) (r w : List (ℕ × ℕ)) → c ≡ false → w ≡ r → cond b (q ∷ r) (cond c (p ∷ q ∷ r) (q ∷ w)) ≡ q ∷ r
before true c p q r w f e = refl
before false false p q r w f e = ap (λ rest. q ∷ rest) e
before false true p q r w f e = absurd (let g : true ≡ false = f in cc)

not_both : (b c d : Bool) → c ≡ false → d ≡ true → (b ≡ true → d ≡ true → c ≡ true) → b ≡ false
not_both false c d f g h = refl
not_both true c d f g h = let e : c ≡ true = h refl g in cc

-- a pair that is put stands
pub put_stands : (p : ℕ × ℕ) (ps : List (ℕ × ℕ)) → with_pair p (with_pair p ps) ≡ with_pair p ps
put_stands p [] = ap (λ b. cond b (p ∷ []) (cond (is_pair_below p p) (p ∷ p ∷ []) (p ∷ p ∷ []))) (same_itself p)
put_stands p (x ∷ xs) =
    picked (λ r. with_pair p r ≡ r) (is_same_pair p x) (is_pair_below p x) (x ∷ xs) (p ∷ x ∷ xs) (x ∷ with_pair p xs)
    (λ same. ap (λ b. cond b (x ∷ xs) (cond (is_pair_below p x) (p ∷ x ∷ xs) (x ∷ with_pair p xs))) same)
    (λ below. ap (λ b. cond b (p ∷ x ∷ xs) (cond (is_pair_below p p) (p ∷ p ∷ x ∷ xs) (p ∷ with_pair p (x ∷ xs)))) (same_itself p))
    (λ other above.
    before (is_same_pair p x) (is_pair_below p x) p x (with_pair p xs) (with_pair p (with_pair p xs)) above (put_stands p xs))

-- a pair that stands still stands when another is put
pub still_stands : (p q : ℕ × ℕ) (ps : List (ℕ × ℕ)) → with_pair p ps ≡ ps → with_pair p (with_pair q ps) ≡ with_pair q ps
still_stands p q [] h = absurd (let e : suc 0 ≡ 0 = ap length h in omega arith)
still_stands p q (x ∷ xs) h =
    let above : is_pair_below p x ≡ false =
    not_first (is_same_pair p x) (is_pair_below p x) p x xs (with_pair p xs) (same_not_below p x) h in
    picked (λ r. with_pair p r ≡ r) (is_same_pair q x) (is_pair_below q x) (x ∷ xs) (q ∷ x ∷ xs) (x ∷ with_pair q xs)
    (λ same. h)
    (λ below. before (is_same_pair p q) (is_pair_below p q) p q (x ∷ xs) (with_pair p (x ∷ xs))
    (not_both (is_pair_below p q) (is_pair_below p x) (is_pair_below q x) above below (below_below p q x)) h)
    (λ other not_below. same_or_rest (is_same_pair p x) (is_pair_below p x) p x xs (with_pair p xs) (with_pair q xs)
    (with_pair p (with_pair q xs)) above h (still_stands p q xs))

-- ---- many

-- pairs that stand among others still do when one is put
pub still_stand : (q : ℕ × ℕ) (ps cells : List (ℕ × ℕ)) → StandAmong ps cells → StandAmong (with_pair q ps) cells
still_stand q ps cells h =
    All-weaker (λ p. with_pair p ps ≡ ps) (λ p. with_pair p (with_pair q ps) ≡ with_pair q ps) (λ p. still_stands p q ps) cells h

one_pair : (p q : ℕ × ℕ) → (eqb p.0 q.0 && eqb p.1 q.1) ≡ true → p ≡ q
one_pair (a, b) (c, d) h =
    let e : a ≡ c = grind (arith, nat_tests) in
    let f : b ≡ d = grind (arith, nat_tests) in
    cc

-- what equals a pair in a cell stands
pub stands_here : (ps cells : List (ℕ × ℕ)) (i : ℕ) (p q : ℕ × ℕ) → StandAmong ps cells → i < length cells → q ≡ get_or cells i q
    → (eqb q.0 p.0 && eqb q.1 p.1) ≡ true → with_pair p ps ≡ ps
stands_here ps cells i p q h lt at_i same =
    let stands : with_pair q ps ≡ ps = subst (λ x. with_pair x ps ≡ ps) (sym at_i) (h i q lt) in
    subst (λ x. with_pair x ps ≡ ps) (one_pair q p same) stands
