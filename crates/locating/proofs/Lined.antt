-- The line of a byte, from that of an earlier one.
use Rattle.std.proofs.Common.{◌≡◌, ◌∙◌, ℕ, suc, min, ◌+◌, ◌-◌, ◌≤◌, cond, List, [], ◌∷◌, ◌++◌, length, take, drop}
use Rattle.std.proofs.Common.{refl, sym, ap, arith, length-append, length-take}
use Rattle.std.specs.Prelude.{filter, nat_eq, ◌==◌}
use Rattle.std.specs.List.{count_by}
use Rattle.std.proofs.lemmas.Bool.Decides.{nat_tests}
use Rattle.std.proofs.lemmas.List.Elements.{filter-append}
use Rattle.std.proofs.lemmas.List.Sums.{length-filter, count_by-le-length}
use Rattle.std.proofs.lemmas.List.{take_min, drop-take, take-take, take-append-drop}
use Rattle.locating.specs.Lines.{line_at}

turned : (x y : ℕ) → nat_eq x y ≡ nat_eq y x
turned x y = grind (arith, nat_tests)

same_ends : (xs : List ℕ) → filter (nat_eq 10) xs ≡ filter (λ b. b == 10) xs
same_ends [] = refl
same_ends (x ∷ xs) =
    ap (λ b. cond b (x ∷ filter (nat_eq 10) xs) (filter (nat_eq 10) xs)) (turned 10 x)
    ∙ ap (λ ys. cond (x == 10) (x ∷ ys) ys) (same_ends xs)

abbrev ends : List ℕ → ℕ
ends xs = length (filter (nat_eq 10) xs)

ends_counted : (xs : List ℕ) → ends xs ≡ count_by (λ b. b == 10) xs
ends_counted xs = ap length (same_ends xs) ∙ length-filter (λ b. b == 10) xs

-- a place behind the text is on its last line
pub line_within : (text : List ℕ) (place : ℕ) → line_at text (min place (length text)) ≡ line_at text place
line_within text place = ap (λ xs. suc (ends xs)) (take_min place text)

pub line_counted : (text before : List ℕ) (place n : ℕ) → before ≡ take (min place (length text)) text
    → n ≡ count_by (λ b. b == 10) before → 1 + n ≡ line_at text place
line_counted text before place n front is =
    let e : ends before ≡ ends (take place text) = ap ends (front ∙ take_min place text) in
    let k = ends_counted before in
    omega arith

-- no more lines than bytes, and one
pub line_most : (text : List ℕ) (place : ℕ) → line_at text place ≤ suc (min place (length text))
line_most text place =
    let few = count_by-le-length (λ (b : ℕ). b == 10) (take place text) in
    let counted = ends_counted (take place text) in
    let long = length-take place text in
    omega arith

-- the line of a byte behind another
pub line_further : (text : List ℕ) (at place : ℕ) → at ≤ place
    → line_at text at + (line_at (drop at text) (place - at) - 1) ≡ line_at text place
line_further text at place le =
    let far : at + (place - at) ≡ place = omega arith in
    let back : drop at (take place text) ≡ take (place - at) (drop at text) =
    ap (λ k. drop at (take k text)) (sym far) ∙ drop-take at (place - at) text in
    let split : take at text ++ take (place - at) (drop at text) ≡ take place text =
    ap (λ xs. xs ++ take (place - at) (drop at text)) (sym (take-take at place text le))
    ∙ (ap (λ xs. take at (take place text) ++ xs) (sym back) ∙ take-append-drop at (take place text)) in
    let both : ends (take place text) ≡ ends (take at text) + ends (take (place - at) (drop at text)) =
    ap ends (sym split)
    ∙ (ap length (filter-append (nat_eq 10) (take at text) (take (place - at) (drop at text)))
    ∙ length-append (filter (nat_eq 10) (take at text)) (filter (nat_eq 10) (take (place - at) (drop at text)))) in
    omega arith
