-- Pairs with the lower number first.
use Rattle.std.proofs.Common.{◌≡◌, ℕ, suc, ◌+◌, ◌<◌, Bool, true, false, cond, List, [], ◌∷◌, ◌++◌, length, take, get_or, refl, sym, ap, ◌∙◌, ◌⊎◌, inl, inr, arith}
use Rattle.std.specs.Prelude.{◌&&◌, ◌||◌, ◌==◌, nat_lt}
use Rattle.std.specs.List.{list_any}
use Rattle.std.specs.HashSet.{HashSet}
use Rattle.std.proofs.Math.Seq.{take-suc}
use Rattle.std.proofs.lemmas.Bool.{cases_Bool, ltb-true, ltb-false, eq-eqb, eqb-true, or_right}
use Rattle.std.proofs.lemmas.List.Folds.{list_any-append}
use Rattle.wordkeys.specs.declared.keys.WordKeys.{WordKeys}
use Rattle.mmsyntax.proofs.Options.{alike}
use Rattle.sourceframes.specs.Pairs.{ordered, is_pair_of_numbers, finds, AreFound}
use Rattle.sourceframes.proofs.Marking.{or_false}

-- ---- tests

both_true : (a b : Bool) → (a && b) ≡ true → (a ≡ true) × (b ≡ true)
both_true true true e = (refl, refl)
both_true true false e = absurd cc
both_true false b e = absurd cc

either_true : (a b : Bool) → (a || b) ≡ true → (a ≡ true) ⊎ (b ≡ true)
either_true true b e = inl refl
either_true false b e = inr e

pub later : (s c : Bool) → cond c true s ≡ (s || c)
later true true = refl
later true false = refl
later false true = refl
later false false = refl

-- ---- the lower first

-- two pairs are the same, number by number
abbrev same : ℕ × ℕ → ℕ × ℕ → Bool
same p q = (p.0 == q.0) && (p.1 == q.1)

same_itself : (p : ℕ × ℕ) → same p p ≡ true
same_itself p = ap (λ t. t && (p.1 == p.1)) (eq-eqb p.0 p.0 refl) ∙ eq-eqb p.1 p.1 refl

abbrev Either : ℕ → ℕ → ℕ × ℕ → Type 0
Either a b p = (p ≡ (a, b)) ⊎ (p ≡ (b, a))

ordered_either : (a b : ℕ) → Either a b (ordered a b)
ordered_either a b = elim (cases_Bool (nat_lt b a)) [
  | inl y ↦ inr (ap (λ t. cond t (b, a) (a, b)) y)
  | inr n ↦ inl (ap (λ t. cond t (b, a) (a, b)) n)
]

ordered_turned : (a b : ℕ) → ordered a b ≡ ordered b a
ordered_turned a b = elim (cases_Bool (nat_lt b a)) [
  | inl y ↦ elim (cases_Bool (nat_lt a b)) [
    | inl z ↦ let p = ltb-true b a y in let q = ltb-true a b z in absurd (omega (arith, p, q))
    | inr n ↦ ap (λ t. cond t (b, a) (a, b)) y ∙ sym (ap (λ t. cond t (a, b) (b, a)) n)
  ]
  | inr n ↦ elim (cases_Bool (nat_lt a b)) [
    | inl z ↦ ap (λ t. cond t (b, a) (a, b)) n ∙ sym (ap (λ t. cond t (a, b) (b, a)) z)
    | inr m ↦
        let p = ltb-false b a n in
        let q = ltb-false a b m in
        let e : a ≡ b = omega (arith, p, q) in
        ap (λ c. ordered a c) (sym e) ∙ ap (λ c. ordered c a) e
  ]
]

straight : (a b u v : ℕ) → a ≡ u → b ≡ v → is_pair_of_numbers u v (a, b) ≡ true
straight a b u v e f =
    ap (λ t. (t && (b == v)) || ((b == u) && (a == v))) (eq-eqb a u e) ∙ ap (λ t. t || ((b == u) && (a == v))) (eq-eqb b v f)

crossed : (a b u v : ℕ) → b ≡ u → a ≡ v → is_pair_of_numbers u v (a, b) ≡ true
crossed a b u v e f =
    or_right ((a == u) && (b == v)) ((b == u) && (a == v)) (ap (λ t. t && (a == v)) (eq-eqb b u e) ∙ eq-eqb a v f)

are_same : (p q : ℕ × ℕ) → same p q ≡ true → (p.0 ≡ q.0) × (p.1 ≡ q.1)
are_same p q s = let both = both_true (p.0 == q.0) (p.1 == q.1) s in (eqb-true p.0 q.0 both.0, eqb-true p.1 q.1 both.1)

same_is_pair : (a b u v : ℕ) (p q : ℕ × ℕ) → Either a b p → Either u v q → same p q ≡ true → is_pair_of_numbers u v (a, b) ≡ true
same_is_pair a b u v p q (inl e) (inl f) s =
    let is = are_same p q s in
    straight a b u v (sym (ap (λ r. r.0) e) ∙ is.0 ∙ ap (λ r. r.0) f) (sym (ap (λ r. r.1) e) ∙ is.1 ∙ ap (λ r. r.1) f)
same_is_pair a b u v p q (inl e) (inr f) s =
    let is = are_same p q s in
    crossed a b u v (sym (ap (λ r. r.1) e) ∙ is.1 ∙ ap (λ r. r.1) f) (sym (ap (λ r. r.0) e) ∙ is.0 ∙ ap (λ r. r.0) f)
same_is_pair a b u v p q (inr e) (inl f) s =
    let is = are_same p q s in
    crossed a b u v (sym (ap (λ r. r.0) e) ∙ is.0 ∙ ap (λ r. r.0) f) (sym (ap (λ r. r.1) e) ∙ is.1 ∙ ap (λ r. r.1) f)
same_is_pair a b u v p q (inr e) (inr f) s =
    let is = are_same p q s in
    straight a b u v (sym (ap (λ r. r.1) e) ∙ is.1 ∙ ap (λ r. r.1) f) (sym (ap (λ r. r.0) e) ∙ is.0 ∙ ap (λ r. r.0) f)

pair_is_same : (a b u v : ℕ) → ordered a b ≡ ordered u v → same (ordered a b) (ordered u v) ≡ true
pair_is_same a b u v e = ap (same (ordered a b)) (sym e) ∙ same_itself (ordered a b)

is_same : (a b u v : ℕ) → is_pair_of_numbers u v (a, b) ≡ true → same (ordered a b) (ordered u v) ≡ true
is_same a b u v h = elim (either_true ((a == u) && (b == v)) ((b == u) && (a == v)) h) [
  | inl y ↦
      let both = both_true (a == u) (b == v) y in
      pair_is_same a b u v (ap (λ c. ordered c b) (eqb-true a u both.0) ∙ ap (λ c. ordered u c) (eqb-true b v both.1))
  | inr y ↦
      let both = both_true (b == u) (a == v) y in
      pair_is_same a b u v
      (ordered_turned a b ∙ ap (λ c. ordered c a) (eqb-true b u both.0) ∙ ap (λ c. ordered u c) (eqb-true a v both.1))
]

-- two pairs are the same with the lower first where they are so in either order
pub ordered_same : (a b u v : ℕ) → same (ordered a b) (ordered u v) ≡ is_pair_of_numbers u v (a, b)
ordered_same a b u v =
    alike (same (ordered a b) (ordered u v)) (is_pair_of_numbers u v (a, b))
    (same_is_pair a b u v (ordered a b) (ordered u v) (ordered_either a b) (ordered_either u v)) (is_same a b u v)

-- ---- one more pair

pub found_on : (ps : List (ℕ × ℕ)) (i : ℕ) (old new : HashSet (ℕ × ℕ) WordKeys) → i < length ps
    → ((u v : ℕ) → finds new u v ≡ (finds old u v || is_pair_of_numbers u v (get_or ps i (0, 0)))) → AreFound (take i ps) old
    → AreFound (take (i + 1) ps) new
found_on ps i old new lt put was u v =
    let p = get_or ps i (0, 0) in
    let more : take (i + 1) ps ≡ take i ps ++ p ∷ [] =
    ap (λ k. take k ps) (let e : i + 1 ≡ suc i = omega arith in e) ∙ take-suc ps i (0, 0) lt in
    put u v ∙ ap (λ b. b || is_pair_of_numbers u v p) (was u v)
    ∙ ap (λ b. list_any (is_pair_of_numbers u v) (take i ps) || b) (sym (or_false (is_pair_of_numbers u v p)))
    ∙ sym (ap (list_any (is_pair_of_numbers u v)) more ∙ list_any-append (is_pair_of_numbers u v) (take i ps) (p ∷ []))
