-- Ascending pairs with one more stay ascending, and end at a pair that comes behind all.
use Rattle.std.proofs.Common.{◌≡◌, ℕ, ◌<◌, ◌≤◌, Bool, true, false, cond, eqb, ltb, List, [], ◌∷◌, ◌++◌, refl, sym, ap, subst, ◌∙◌, inl}
use Rattle.std.proofs.Common.{inr, arith}
use Rattle.std.specs.Prelude.{◌&&◌}
use Rattle.std.specs.List.{list_any, AllByRecursion}
use Rattle.std.proofs.lemmas.Bool.{cases_Bool, cond-true, cond-false, ltb-true, ltb-false, lt-ltb, or_parts}
use Rattle.std.proofs.lemmas.Bool.Decides.{eqb_tells}
use Rattle.std.proofs.lemmas.List.Elements.{All-from_recursion, recursion_from_All}
use Rattle.mmsyntax.specs.Blocks.{is_pair_below, is_same_pair, with_pair, with_pairs, in_order}
use Rattle.mmsyntax.specs.Assertions.{ComesBefore, AreAscending, IsPairOf}
use Rattle.mmsyntax.proofs.Distinct.{all_weaker, all_right}
use Rattle.mmsyntax.proofs.Ascending.{IsBefore, before_parts, before_from, before_trans}

-- ---- which of two pairs comes first

after_otherwise : (p q : ℕ × ℕ) → is_same_pair p q ≡ false → is_pair_below p q ≡ false → ComesBefore q p
after_otherwise p q s b =
    let apart = or_parts (ltb p.0 q.0) (eqb p.0 q.0 && ltb p.1 q.1) b in
    let le : q.0 ≤ p.0 = ltb-false p.0 q.0 apart.0 in
    elim (eqb_tells p.0 q.0) [
      | inl y ↦
          let e : p.0 ≡ q.0 = y.1 in
          let lt : ltb p.1 q.1 ≡ false = sym (ap (λ b. b && ltb p.1 q.1) y.0) ∙ apart.1 in
          let le1 : q.1 ≤ p.1 = ltb-false p.1 q.1 lt in
          let other : eqb p.1 q.1 ≡ false = sym (ap (λ b. b && eqb p.1 q.1) y.0) ∙ s in
          elim (eqb_tells p.1 q.1) [
            | inl z ↦ absurd (let c : true ≡ false = sym z.0 ∙ other in cc)
            | inr n ↦ before_from q p (inr (sym e, strict q.1 p.1 le1 (λ d. n.1 (sym d))))
          ]
      | inr n ↦ before_from q p (inl (strict q.0 p.0 le (λ d. n.1 (sym d))))
    ]
  where
    strict : (a b : ℕ) → a ≤ b → (a ≡ b → ⊥) → a < b
    strict a b le ne = elim (cases_Bool (ltb a b)) [
      | inl y ↦ ltb-true a b y
      | inr n ↦
          absurd (ne (let h : b ≤ a = ltb-false a b n in omega arith))
    ]

-- ---- one more pair

all_with : (P : ℕ × ℕ → Type 0) (p : ℕ × ℕ) (ps : List (ℕ × ℕ)) → P p → AllByRecursion P ps → AllByRecursion P (with_pair p ps)
all_with P p [] h g = (h, tt)
all_with P p (q ∷ qs) h g = elim (cases_Bool (is_same_pair p q)) [
  | inl y ↦ subst (AllByRecursion P) (sym (cond-true (is_same_pair p q) (q ∷ qs) _ y)) g
  | inr n ↦ subst (AllByRecursion P) (sym (cond-false (is_same_pair p q) (q ∷ qs) (cond (is_pair_below p q) (p ∷ q ∷ qs)
      (q ∷ with_pair p qs)) n))
      (elim (cases_Bool (is_pair_below p q)) [
        | inl y ↦ subst (AllByRecursion P) (sym (cond-true (is_pair_below p q) (p ∷ q ∷ qs) _ y)) (h, g)
        | inr m ↦ subst (AllByRecursion P) (sym (cond-false (is_pair_below p q) (p ∷ q ∷ qs) (q ∷ with_pair p qs) m))
            (g.0, all_with P p qs h g.1)
      ])
]

ascends_with : (p : ℕ × ℕ) (ps : List (ℕ × ℕ)) → AreAscending ps → AreAscending (with_pair p ps)
ascends_with p [] a = (All-from_recursion (ComesBefore p) [] tt, tt)
ascends_with p (q ∷ qs) a = elim (cases_Bool (is_same_pair p q)) [
  | inl y ↦ subst AreAscending (sym (cond-true (is_same_pair p q) (q ∷ qs) _ y)) a
  | inr n ↦ subst AreAscending (sym (cond-false (is_same_pair p q) (q ∷ qs) (cond (is_pair_below p q) (p ∷ q ∷ qs) (q ∷ with_pair p qs)) n))
      (elim (cases_Bool (is_pair_below p q)) [
        | inl y ↦
            let rest = all_weaker (ComesBefore q) (ComesBefore p) qs (λ r h. before_trans p q r y h)
            (recursion_from_All (ComesBefore q) qs a.0) in
            subst AreAscending (sym (cond-true (is_pair_below p q) (p ∷ q ∷ qs) _ y))
            (All-from_recursion (ComesBefore p) (q ∷ qs) (y, rest), a)
        | inr m ↦
            let rest = all_with (ComesBefore q) p qs (after_otherwise p q n m) (recursion_from_All (ComesBefore q) qs a.0) in
            subst AreAscending (sym (cond-false (is_pair_below p q) (p ∷ q ∷ qs) (q ∷ with_pair p qs) m))
            (All-from_recursion (ComesBefore q) (with_pair p qs) rest, ascends_with p qs a.1)
      ])
]

-- ---- the pairs of one more variable of a $d

in_order-is_pair : (count i j : ℕ) → eqb i j ≡ false → i < count → j < count → IsPairOf count (in_order i j)
in_order-is_pair count i j apart a b = elim (cases_Bool (ltb i j)) [
  | inl y ↦ subst (IsPairOf count) (sym (cond-true (ltb i j) (i, j) (j, i) y)) (ltb-true i j y, b)
  | inr n ↦
      let le : j ≤ i = ltb-false i j n in
      subst (IsPairOf count) (sym (cond-false (ltb i j) (i, j) (j, i) n)) (strict i j le apart, a)
]
  where
    strict : (i j : ℕ) → j ≤ i → eqb i j ≡ false → j < i
    strict i j le h = grind arith

pub pairs_with : (count j : ℕ) (is : List ℕ) (ps : List (ℕ × ℕ)) → j < count → AllByRecursion (λ i. i < count) is
    → list_any (λ i. eqb i j) is ≡ false → AllByRecursion (IsPairOf count) ps → AllByRecursion (IsPairOf count) (with_pairs j is ps)
pairs_with count j [] ps lt h apart g = g
pairs_with count j (i ∷ is) ps lt h apart g =
    let both = or_parts (eqb i j) (list_any (λ i. eqb i j) is) apart in
    pairs_with count j is (with_pair (in_order i j) ps) lt h.1 both.1
    (all_with (IsPairOf count) (in_order i j) ps (in_order-is_pair count i j both.0 h.0 lt) g)

pub pairs_ascend : (j : ℕ) (is : List ℕ) (ps : List (ℕ × ℕ)) → AreAscending ps → AreAscending (with_pairs j is ps)
pairs_ascend j [] ps a = a
pairs_ascend j (i ∷ is) ps a = pairs_ascend j is (with_pair (in_order i j) ps) (ascends_with (in_order i j) ps a)

-- ---- a pair behind all others

same_before : (p q : ℕ × ℕ) → ComesBefore q p → is_same_pair p q ≡ false
same_before p q h = apart (before_parts q p h)
  where
    other : (a b : ℕ) → b < a → eqb a b ≡ false
    other a b h = grind arith

    never : (b : Bool) → (b && false) ≡ false
    never true = refl
    never false = refl

    apart : IsBefore q p → is_same_pair p q ≡ false
    apart (inl lt) = ap (λ b. b && eqb p.1 q.1) (other p.0 q.0 lt)
    apart (inr both) = ap (λ b. eqb p.0 q.0 && b) (other p.1 q.1 both.1) ∙ never (eqb p.0 q.0)

below_before_not : (p q : ℕ × ℕ) → ComesBefore q p → is_pair_below p q ≡ false
below_before_not p q h = elim (cases_Bool (is_pair_below p q)) [ inl y ↦ absurd (no (before_parts q p h) (before_parts p q y)) | inr n ↦ n ]
  where
    no : IsBefore q p → IsBefore p q → ⊥
    no (inl a) (inl b) = omega arith
    no (inl a) (inr b) = let e : p.0 ≡ q.0 = b.0 in omega arith
    no (inr a) (inl b) = let e : q.0 ≡ p.0 = a.0 in omega arith
    no (inr a) (inr b) = let e : q.1 < p.1 = a.1 in let f : p.1 < q.1 = b.1 in omega arith

with_last : (p : ℕ × ℕ) (ps : List (ℕ × ℕ)) → AllByRecursion (λ q. ComesBefore q p) ps → with_pair p ps ≡ ps ++ p ∷ []
with_last p [] h = refl
with_last p (q ∷ qs) h =
    cond-false (is_same_pair p q) (q ∷ qs) (cond (is_pair_below p q) (p ∷ q ∷ qs) (q ∷ with_pair p qs)) (same_before p q h.0)
    ∙ cond-false (is_pair_below p q) (p ∷ q ∷ qs) (q ∷ with_pair p qs) (below_before_not p q h.0)
    ∙ ap (λ x. q ∷ x) (with_last p qs h.1)

all_before : (front : List (ℕ × ℕ)) (p : ℕ × ℕ) (rest : List (ℕ × ℕ)) → AreAscending (front ++ p ∷ rest)
    → AllByRecursion (λ q. ComesBefore q p) front
all_before [] p rest a = tt
all_before (q ∷ front) p rest a = (
  (all_right (ComesBefore q) front (p ∷ rest) (recursion_from_All (ComesBefore q) (front ++ p ∷ rest) a.0)).0,
  all_before front p rest
      a.1,
)

-- the next of ascending pairs comes at the end
pub next_pair : (front : List (ℕ × ℕ)) (i j : ℕ) (rest : List (ℕ × ℕ)) → i < j → AreAscending (front ++ (i, j) ∷ rest)
    → with_pair (in_order i j) front ≡ front ++ (i, j) ∷ []
next_pair front i j rest lt a =
    ap (λ p. with_pair p front) (cond-true (ltb i j) (i, j) (j, i) (lt-ltb i j lt))
    ∙ with_last (i, j) front (all_before front (i, j) rest a)
