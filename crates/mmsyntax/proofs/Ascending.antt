-- Pairs ascend where each comes before the next one.
use Rattle.std.proofs.Common.{◌≡◌, ℕ, zero, suc, ◌<◌, ◌≤◌, true, false, eqb, ltb, List, [], ◌∷◌, length, get_or, take, drop, sym, ap, ◌∙◌}
use Rattle.std.proofs.Common.{◌⊎◌, inl, inr, arith}
use Rattle.std.specs.Prelude.{All, ◌||◌, ◌&&◌}
use Rattle.std.proofs.lemmas.Bool.{cases_Bool, eqb-true, ltb-true, lt-ltb, and_parts}
use Rattle.std.proofs.lemmas.Bool.Decides.{eqb_tells}
use Rattle.mmsyntax.specs.Assertions.{ComesBefore, AreAscending}

-- each pair comes before the next one
abbrev pub AscendByNext : List (ℕ × ℕ) → Type 0
AscendByNext [] = Unit {0}
AscendByNext (p ∷ []) = Unit {0}
AscendByNext (p ∷ (q ∷ ps)) = ComesBefore p q × AscendByNext (q ∷ ps)

-- what the test of pairs tells: by the first place, then by the second
abbrev pub IsBefore : ℕ × ℕ → ℕ × ℕ → Type 0
IsBefore p q = (p.0 < q.0) ⊎ ((p.0 ≡ q.0) × (p.1 < q.1))

pub before_parts : (p q : ℕ × ℕ) → ComesBefore p q → IsBefore p q
before_parts p q h = elim (cases_Bool (ltb p.0 q.0)) [
  | inl y ↦ inl (ltb-true p.0 q.0 y)
  | inr n ↦
      let both = and_parts (eqb p.0 q.0) (ltb p.1 q.1) (sym (ap (λ b. b || (eqb p.0 q.0 && ltb p.1 q.1)) n) ∙ h) in
      inr (eqb-true p.0 q.0 both.0, ltb-true p.1 q.1 both.1)
]

pub before_from : (p q : ℕ × ℕ) → IsBefore p q → ComesBefore p q
before_from p q (inl lt) = ap (λ b. b || (eqb p.0 q.0 && ltb p.1 q.1)) (lt-ltb p.0 q.0 lt)
before_from p q (inr both) =
    let e : p.0 ≡ q.0 = both.0 in
    let no : ltb p.0 q.0 ≡ false = not_below p.0 q.0 e in
    let yes : eqb p.0 q.0 ≡ true = same p.0 q.0 e in
    let lt : ltb p.1 q.1 ≡ true = lt-ltb p.1 q.1 both.1 in
    rw (no, yes, lt)
  where
    not_below : (a b : ℕ) → a ≡ b → ltb a b ≡ false
    not_below a b e = grind arith

    same : (a b : ℕ) → a ≡ b → eqb a b ≡ true
    same a b e = elim (eqb_tells a b) [ inl y ↦ y.0 | inr n ↦ absurd (n.1 e) ]

pub before_trans : (p q r : ℕ × ℕ) → ComesBefore p q → ComesBefore q r → ComesBefore p r
before_trans p q r h g = before_from p r (parts_trans (before_parts p q h) (before_parts q r g))
  where
    parts_trans : IsBefore p q → IsBefore q r → IsBefore p r
    parts_trans (inl a) (inl b) = inl (omega arith)
    parts_trans (inl a) (inr b) = inl (let e : q.0 ≡ r.0 = b.0 in omega arith)
    parts_trans (inr a) (inl b) = inl (let e : p.0 ≡ q.0 = a.0 in omega arith)
    parts_trans (inr a) (inr b) = inr (
      let e : p.0 ≡ q.0 = a.0 in let f : q.0 ≡ r.0 = b.0 in omega arith,
      let e : p.1 < q.1 = a.1 in
          let f : q.1 < r.1 = b.1 in omega arith,
    )

pub by_next : (ps : List (ℕ × ℕ)) → AreAscending ps → AscendByNext ps
by_next [] a = tt
by_next (p ∷ []) a = tt
by_next (p ∷ (q ∷ ps)) a = (a.0 0 q (omega arith), by_next (q ∷ ps) a.1)

first_before : (p q : ℕ × ℕ) (ps : List (ℕ × ℕ)) → ComesBefore p q → All (ComesBefore q) ps → All (ComesBefore p) (q ∷ ps)
first_before p q ps a h zero d lt = a
first_before p q ps a h (suc k) d lt = before_trans p q (get_or ps k d) a (h k d (omega arith))

pub ascending : (ps : List (ℕ × ℕ)) → AscendByNext ps → AreAscending ps
ascending [] a = tt
ascending (p ∷ []) a = ((λ k d lt. absurd (omega arith)), tt)
ascending (p ∷ (q ∷ ps)) a =
    let later = ascending (q ∷ ps) a.1 in
    (first_before p q ps a.0 later.0, later)

pub nothing_ascends : (ps : List (ℕ × ℕ)) → length ps < 1 → AscendByNext ps
nothing_ascends [] h = tt
nothing_ascends (p ∷ ps) h = absurd (omega arith)

-- the first pair comes before the next, where one is left
pub first_two : (ps : List (ℕ × ℕ)) (n : ℕ) (d : ℕ × ℕ) → 1 ≤ length (take n (drop 1 ps)) → AscendByNext ps
    → ComesBefore (get_or ps 0 d) (get_or (take n (drop 1 ps)) 0 d)
first_two ps zero d h a = absurd (omega arith)
first_two [] (suc n) d h a = absurd (omega arith)
first_two (p ∷ []) (suc n) d h a = absurd (omega arith)
first_two (p ∷ (q ∷ ps)) (suc n) d h a = a.0
