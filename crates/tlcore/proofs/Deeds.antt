-- What entries do to one cell: its value and its version after the first k of them.
use Rattle.std.proofs.Common.{None, Option, Some, ap, arith, inl, inr, refl, suc, sym, zero, ℕ, ◌<◌, ◌∙◌, ◌≡◌, ◌≢◌, ◌≤◌, ◌⊎◌}
use Rattle.tlcore.specs.History.{Deed, Did, Nothing, Will, value_after, value_over, version_after, version_over}

-- the value that was written, if one was
abbrev pub did : Deed → Option ℕ
did Nothing = None
did (Will v) = None
did (Did v) = Some v

value_over-did : (x y : Deed) (v : ℕ) → did x ≡ did y → value_over x v ≡ value_over y v
value_over-did Nothing Nothing v e = refl
value_over-did Nothing (Will b) v e = refl
value_over-did Nothing (Did b) v e = cc
value_over-did (Will a) Nothing v e = refl
value_over-did (Will a) (Will b) v e = refl
value_over-did (Will a) (Did b) v e = cc
value_over-did (Did a) Nothing v e = cc
value_over-did (Did a) (Will b) v e = cc
value_over-did (Did a) (Did b) v e = cc

number-did : (x y : Deed) (n v : ℕ) → did x ≡ did y → version_over x n v ≡ version_over y n v
number-did Nothing Nothing n v e = refl
number-did Nothing (Will b) n v e = refl
number-did Nothing (Did b) n v e = cc
number-did (Will a) Nothing n v e = refl
number-did (Will a) (Will b) n v e = refl
number-did (Will a) (Did b) n v e = cc
number-did (Did a) Nothing n v e = cc
number-did (Did a) (Will b) n v e = cc
number-did (Did a) (Did b) n v e = refl

-- the same deeds done below k give the same value and version
pub value-same : (d e : ℕ → Deed) (o k : ℕ) → ((i : ℕ) → i < k → did (e i) ≡ did (d i)) → value_after e o k ≡ value_after d o k
value-same d e o zero h = refl
value-same d e o (suc k) h =
    ap (value_over (e k)) (value-same d e o k (λ i l. h i (omega arith)))
    ∙ value_over-did (e k) (d k) (value_after d o k) (h k (omega arith))

pub version-same : (d e : ℕ → Deed) (k : ℕ) → ((i : ℕ) → i < k → did (e i) ≡ did (d i)) → version_after e k ≡ version_after d k
version-same d e zero h = refl
version-same d e (suc k) h =
    ap (version_over (e k) (suc k)) (version-same d e k (λ i l. h i (omega arith)))
    ∙ number-did (e k) (d k) (suc k) (version_after d k) (h k (omega arith))

number-bound : (x : Deed) (k v : ℕ) → v ≤ k → version_over x (suc k) v ≤ suc k
number-bound Nothing k v h = omega arith
number-bound (Will a) k v h = omega arith
number-bound (Did a) k v h = omega arith

pub version-bound : (d : ℕ → Deed) (k : ℕ) → version_after d k ≤ k
version-bound d zero = omega arith
version-bound d (suc k) = number-bound (d k) k (version_after d k) (version-bound d k)

-- no deed was done at k, where the version after it is at most k
below_now : (x : Deed) (k v o : ℕ) → version_over x (suc k) v ≤ k → (version_over x (suc k) v ≡ v) × (value_over x o ≡ o)
below_now Nothing k v o h = (refl, refl)
below_now (Will a) k v o h = (refl, refl)
below_now (Did a) k v o h = absurd (omega arith)

pub up_to : (k n : ℕ) → k ≤ suc n → (k ≡ suc n) ⊎ (k ≤ n)
up_to k n l = grind arith

settled_step : (d : ℕ → Deed) (o n k : ℕ) → (version_after d n ≤ k → k ≤ n → value_after d o k ≡ value_after d o n)
    → version_after d (suc n) ≤ k → (k ≡ suc n) ⊎ (k ≤ n) → value_after d o k ≡ value_after d o (suc n)
settled_step d o n k r h (inl e) = ap (value_after d o) e
settled_step d o n k r h (inr m) =
    let b : (version_after d (suc n) ≡ version_after d n) × (value_after d o (suc n) ≡ value_after d o n) =
    below_now (d n) n (version_after d n) (value_after d o n) (omega arith) in
    r (omega arith) m ∙ sym b.1

-- from the last writer on the value stays
pub value-settled : (d : ℕ → Deed) (o n k : ℕ) → version_after d n ≤ k → k ≤ n → value_after d o k ≡ value_after d o n
value-settled d o zero k h l = let e : k ≡ 0 = omega arith in ap (value_after d o) e
value-settled d o (suc n) k h l = settled_step d o n k (value-settled d o n k) h (up_to k n l)

below_or_at : (i n : ℕ) → i < suc n → (n ≡ i) ⊎ ((i < n) × (n ≢ i))
below_or_at i n l = grind arith

newest_step : (d e : ℕ → Deed) (o i x n : ℕ) → ((j : ℕ) → j ≢ i → e j ≡ d j) → e i ≡ Did x
    → (version_after d n ≤ i → i < n → (version_after e n ≡ suc i) × (value_after e o n ≡ x))
    → version_after d (suc n) ≤ i → (n ≡ i) ⊎ ((i < n) × (n ≢ i)) → (version_after e (suc n) ≡ suc i) × (value_after e o (suc n) ≡ x)
newest_step d e o i x n s w r h (inl p) =
    let q : e n ≡ Did x = ap e p ∙ w in
    (ap (λ y. version_over y (suc n) (version_after e n)) q ∙ ap suc p, ap (λ y. value_over y (value_after e o n)) q)
newest_step d e o i x n s w r h (inr p) =
    let b : (version_after d (suc n) ≡ version_after d n) × (value_after d o (suc n) ≡ value_after d o n) =
    below_now (d n) n (version_after d n) (value_after d o n) (omega arith) in
    let ih : (version_after e n ≡ suc i) × (value_after e o n ≡ x) = r (omega arith) p.0 in
    let q : e n ≡ d n = s n p.1 in
    let below : version_over (d n) (suc n) (version_after d n) ≤ n = omega arith in (
      ap (λ y. version_over y (suc n) (version_after e n)) q ∙ (same_number (d n) n (version_after d n) (version_after e n) below ∙ ih.0),
      ap (λ y. value_over y (value_after e o n)) q ∙ (same_over (d n) n (version_after d n) (value_after e o n) below ∙ ih.1),
    )
  where
    same_number : (y : Deed) (n v u : ℕ) → version_over y (suc n) v ≤ n → version_over y (suc n) u ≡ u
    same_number Nothing n v u b = refl
    same_number (Will a) n v u b = refl
    same_number (Did a) n v u b = absurd (omega arith)

    same_over : (y : Deed) (n v u : ℕ) → version_over y (suc n) v ≤ n → value_over y u ≡ u
    same_over Nothing n v u b = refl
    same_over (Will a) n v u b = refl
    same_over (Did a) n v u b = absurd (omega arith)

-- an entry that becomes Done above the last writer is the last writer
pub value-newest : (d e : ℕ → Deed) (o i x n : ℕ) → ((j : ℕ) → j ≢ i → e j ≡ d j) → e i ≡ Did x → version_after d n ≤ i → i < n
    → (version_after e n ≡ suc i) × (value_after e o n ≡ x)
value-newest d e o i x zero s w h l = absurd (omega arith)
value-newest d e o i x (suc n) s w h l = newest_step d e o i x n s w (value-newest d e o i x n s w) h (below_or_at i n l)

-- the last writer wrote
pub version-deed : (d : ℕ → Deed) (k : ℕ) → (version_after d k ≡ 0) ⊎ ((i : ℕ) × (x : ℕ) × (version_after d k ≡ suc i) × (d i ≡ Did x))
version-deed d zero = inl refl
version-deed d (suc k) = go (d k) refl (version-deed d k)
  where
    go : (y : Deed) → d k ≡ y → (version_after d k ≡ 0) ⊎ ((i : ℕ) × (x : ℕ) × (version_after d k ≡ suc i) × (d i ≡ Did x))
        → (version_after d (suc k) ≡ 0) ⊎ ((i : ℕ) × (x : ℕ) × (version_after d (suc k) ≡ suc i) × (d i ≡ Did x))
    go Nothing e ih =
        let q : version_after d (suc k) ≡ version_after d k = ap (λ (y : Deed). version_over y (suc k) (version_after d k)) e in
        elim ih [ inl p ↦ inl (q ∙ p) | inr p ↦ inr (p.0, p.1, q ∙ p.2, p.3) ]
    go (Will a) e ih =
        let q : version_after d (suc k) ≡ version_after d k = ap (λ (y : Deed). version_over y (suc k) (version_after d k)) e in
        elim ih [ inl p ↦ inl (q ∙ p) | inr p ↦ inr (p.0, p.1, q ∙ p.2, p.3) ]
    go (Did a) e ih = inr (k, a, ap (λ (y : Deed). version_over y (suc k) (version_after d k)) e, e)
