-- The parts of a seat: its reads and the cells that it holds.
use Rattle.std.proofs.Common.{List, None, Some, [], ap, arith, false, inl, inr, length, nat_le, refl, slice_get, slice_index, subst, sym}
use Rattle.std.proofs.Common.{true, ℕ, ◌%◌, ◌/◌, ◌<◌, ◌==◌, ◌∙◌, ◌∷◌, ◌≡◌, ◌≢◌, ◌≤◌, ◌⊎◌}
use Rattle.tlcore.specs.History.{WordsEntry, IsOne, One, Will, deed, value, version}
use Rattle.ranges.specs.Pairs.{written}
use Rattle.tlcore.specs.Seats.{Checking, Failing, Held, Idle, Loaded, Looked, Phase, Read, Reading, Seat, Storing, Taking, Voiding}
use Rattle.tlcore.specs.Seats.{find_held, find_read, is_held, is_nil, number_at, passes, reads_of, with_stored, without, writes_of}
use Rattle.tlcore.specs.Machine.{Cell}
use Rattle.tlcore.specs.Invariant.{CellsOk, IsOld, PhaseOk, ReadsOk}
use Rattle.tlcore.proofs.Deeds.{value-settled}
use Rattle.tlcore.proofs.Lists.{at_most_numbers, both_left, both_right, equal_numbers, get_within, known, other_numbers}

pub passes-old : (word rv : ℕ) → passes word rv ≡ true → IsOld word rv
passes-old word rv h =
    let e : word % 2 ≡ 0 = equal_numbers (word % 2) 0 (both_left (word % 2 == 0) (nat_le (word / 2) rv) h) in
    let l : word / 2 ≤ rv = at_most_numbers (word / 2) rv (both_right (word % 2 == 0) (nat_le (word / 2) rv) h) in
    (word / 2, omega arith, l)

-- ---- reads

pub find_read-ok : (o : List ℕ) (h : List WordsEntry) (rv c : ℕ) (rs : List Read) (r : Read) → ReadsOk o h rv rs → find_read c rs ≡ Some r
    → (r.cell ≡ c) × IsOld r.word rv × IsOne o h rv c r.value
find_read-ok o h rv c [] r p e = cc
find_read-ok o h rv c (x ∷ rs) r p e = go (known (x.cell == c)) (find_read-ok o h rv c rs r p.1)
  where
    go : ((x.cell == c) ≡ true) ⊎ ((x.cell == c) ≡ false)
        → (find_read c rs ≡ Some r → (r.cell ≡ c) × IsOld r.word rv × IsOne o h rv c r.value)
        → (r.cell ≡ c) × IsOld r.word rv × IsOne o h rv c r.value
    go (inl t) ih =
        let q : Some x ≡ Some r = rw t at e in
        let s : x ≡ r = cc in
        let n : x.cell ≡ c = equal_numbers x.cell c t in
        subst (λ (y : Read). (y.cell ≡ c) × IsOld y.word rv × IsOne o h rv c y.value) s
        (n, p.0.0, subst (λ (d : ℕ). IsOne o h rv d x.value) n p.0.1)
    go (inr t) ih = let q : find_read c rs ≡ Some r = rw t at e in ih q

pub ReadsOk-one : (o : List ℕ) (h : List WordsEntry) (rv : ℕ) (rs : List Read) → ReadsOk o h rv rs → One o h rv (reads_of rs)
ReadsOk-one o h rv [] p = tt
ReadsOk-one o h rv (x ∷ rs) p = (p.0.1, ReadsOk-one o h rv rs p.1)

-- ---- held cells

pub find_held-cell : (c : ℕ) (ks : List Held) (k : Held) → find_held c ks ≡ Some k → k.cell ≡ c
find_held-cell c [] k e = cc
find_held-cell c (x ∷ ks) k e = go (known (x.cell == c)) (find_held-cell c ks k)
  where
    go : ((x.cell == c) ≡ true) ⊎ ((x.cell == c) ≡ false) → (find_held c ks ≡ Some k → k.cell ≡ c) → k.cell ≡ c
    go (inl t) ih =
        let q : Some x ≡ Some k = rw t at e in
        let s : x ≡ k = cc in
        ap (λ (y : Held). y.cell) (sym s) ∙ equal_numbers x.cell c t
    go (inr t) ih = let q : find_held c ks ≡ Some k = rw t at e in ih q

pub is_held-find : (c : ℕ) (ks : List Held) → is_held c ks ≡ true → (k : Held) × (find_held c ks ≡ Some k)
is_held-find c [] e = cc
is_held-find c (x ∷ ks) e = go (known (x.cell == c)) (is_held-find c ks)
  where
    go : ((x.cell == c) ≡ true) ⊎ ((x.cell == c) ≡ false) → (is_held c ks ≡ true → (k : Held) × (find_held c ks ≡ Some k))
        → (k : Held) × (find_held c (x ∷ ks) ≡ Some k)
    go (inl t) ih = (x, rw t refl)
    go (inr t) ih =
        let q : is_held c ks ≡ true = rw t at e in
        let b : (k : Held) × (find_held c ks ≡ Some k) = ih q in
        (b.0, rw t b.1)

pub written-find : (c : ℕ) (ks : List Held) → ((k : Held) → find_held c ks ≡ Some k → ⊥) → written c (writes_of ks) ≡ None
written-find c [] f = refl
written-find c (x ∷ ks) f = go (known (x.cell == c)) (written-find c ks)
  where
    go : ((x.cell == c) ≡ true) ⊎ ((x.cell == c) ≡ false) → (((k : Held) → find_held c ks ≡ Some k → ⊥) → written c (writes_of ks) ≡ None)
        → written c (writes_of (x ∷ ks)) ≡ None
    go (inl t) ih = absurd (f x (rw t refl))
    go (inr t) ih = rw t (ih (λ k e. f k (rw t e)))

pub written-held : (c : ℕ) (ks : List Held) (k : Held) → find_held c ks ≡ Some k → written c (writes_of ks) ≡ Some k.value
written-held c [] k e = cc
written-held c (x ∷ ks) k e = go (known (x.cell == c)) (written-held c ks k)
  where
    go : ((x.cell == c) ≡ true) ⊎ ((x.cell == c) ≡ false) → (find_held c ks ≡ Some k → written c (writes_of ks) ≡ Some k.value)
        → written c (writes_of (x ∷ ks)) ≡ Some k.value
    go (inl t) ih =
        let q : Some x ≡ Some k = rw t at e in
        let s : x ≡ k = cc in
        rw t (ap (λ (y : Held). Some y.value) s)
    go (inr t) ih = let q : find_held c ks ≡ Some k = rw t at e in rw t (ih q)

-- without c, the others are still held, and c is not
pub without-find : (c d : ℕ) (ks : List Held) (k : Held) → find_held d (without c ks) ≡ Some k → (d ≢ c) × (find_held d ks ≡ Some k)
without-find c d [] k e = cc
without-find c d (x ∷ ks) k e = go (known (x.cell == c)) (known (x.cell == d)) (without-find c d ks k)
  where
    go : ((x.cell == c) ≡ true) ⊎ ((x.cell == c) ≡ false) → ((x.cell == d) ≡ true) ⊎ ((x.cell == d) ≡ false)
        → (find_held d (without c ks) ≡ Some k → (d ≢ c) × (find_held d ks ≡ Some k)) → (d ≢ c) × (find_held d (x ∷ ks) ≡ Some k)
    go (inl t) (inl u) ih =
        let q : find_held d (without c ks) ≡ Some k = rw t at e in
        let b : (d ≢ c) × (find_held d ks ≡ Some k) = ih q in
        absurd (b.0 (sym (equal_numbers x.cell d u) ∙ equal_numbers x.cell c t))
    go (inl t) (inr u) ih =
        let q : find_held d (without c ks) ≡ Some k = rw t at e in
        let b : (d ≢ c) × (find_held d ks ≡ Some k) = ih q in
        (b.0, rw u b.1)
    go (inr t) (inl u) ih =
        let q : find_held d (x ∷ without c ks) ≡ Some k = rw t at e in
        let r : Some x ≡ Some k = rw u at q in
        (λ n. other_numbers x.cell c t (equal_numbers x.cell d u ∙ n), rw u r)
    go (inr t) (inr u) ih =
        let q : find_held d (x ∷ without c ks) ≡ Some k = rw t at e in
        let r : find_held d (without c ks) ≡ Some k = rw u at q in
        let b : (d ≢ c) × (find_held d ks ≡ Some k) = ih r in
        (b.0, rw u b.1)

-- what is held after a store: the same, or c with its mark
pub stored-find : (c d : ℕ) (ks : List Held) (k : Held) → find_held d (with_stored c ks) ≡ Some k
    → (m : Held) × (find_held d ks ≡ Some m) × (k.word ≡ m.word) × (k.value ≡ m.value) × (d ≢ c → k ≡ m)
stored-find c d [] k e = cc
stored-find c d (x ∷ ks) k e = go (known (x.cell == c)) (known (x.cell == d)) (stored-find c d ks k)
  where
    Res : List Held → Type 0
    Res zs = (m : Held) × (find_held d zs ≡ Some m) × (k.word ≡ m.word) × (k.value ≡ m.value) × (d ≢ c → k ≡ m)

    go : ((x.cell == c) ≡ true) ⊎ ((x.cell == c) ≡ false) → ((x.cell == d) ≡ true) ⊎ ((x.cell == d) ≡ false)
        → (find_held d (with_stored c ks) ≡ Some k → (m : Held) × (find_held d ks ≡ Some m) × (k.word ≡ m.word) × (k.value ≡ m.value)
        × (d ≢ c → k ≡ m))
        → (m : Held) × (find_held d (x ∷ ks) ≡ Some m) × (k.word ≡ m.word) × (k.value ≡ m.value) × (d ≢ c → k ≡ m)
    go (inl t) (inl u) ih =
        let q : find_held d (record x { stored = true } ∷ with_stored c ks) ≡ Some k = rw t at e in
        let r : Some (record x { stored = true }) ≡ Some k = rw u at q in
        let s : record x { stored = true } ≡ k = cc in (
          x,
          rw u refl,
          ap (λ (y : Held). y.word) (sym s),
          ap (λ (y : Held). y.value) (sym s),
          λ n. absurd
              (n (sym (equal_numbers x.cell d u) ∙ equal_numbers x.cell c t)),
        )
    go (inl t) (inr u) ih =
        let q : find_held d (record x { stored = true } ∷ with_stored c ks) ≡ Some k = rw t at e in
        let r : find_held d (with_stored c ks) ≡ Some k = rw u at q in
        let b : (m : Held) × (find_held d ks ≡ Some m) × (k.word ≡ m.word) × (k.value ≡ m.value) × (d ≢ c → k ≡ m) = ih r in
        (b.0, rw u b.1, b.2, b.3, b.4)
    go (inr t) (inl u) ih =
        let q : find_held d (x ∷ with_stored c ks) ≡ Some k = rw t at e in
        let r : Some x ≡ Some k = rw u at q in
        let s : x ≡ k = cc in
        (x, rw u refl, ap (λ (y : Held). y.word) (sym s), ap (λ (y : Held). y.value) (sym s), λ n. sym s)
    go (inr t) (inr u) ih =
        let q : find_held d (x ∷ with_stored c ks) ≡ Some k = rw t at e in
        let r : find_held d (with_stored c ks) ≡ Some k = rw u at q in
        let b : (m : Held) × (find_held d ks ≡ Some m) × (k.word ≡ m.word) × (k.value ≡ m.value) × (d ≢ c → k ≡ m) = ih r in
        (b.0, rw u b.1, b.2, b.3, b.4)

pub is_nil-nil : (ks : List Held) → is_nil ks ≡ true → ks ≡ []
is_nil-nil [] e = refl
is_nil-nil (x ∷ ks) e = cc

-- ---- numbers and cells

-- a number that a run has drawn is that of an entry
pub number_within : (o : List ℕ) (xs : List Cell) (h : List WordsEntry) (t : Seat) (p : Phase) (i : ℕ) → PhaseOk o xs h t p
    → number_at p ≡ Some i → i < length h
number_within o xs h t Idle i q e = cc
number_within o xs h t Reading i q e = cc
number_within o xs h t (Looked c x) i q e = cc
number_within o xs h t (Loaded c x v) i q e = cc
number_within o xs h t Taking i q e = cc
number_within o xs h t (Checking j u) i q e = let l : j < length h = get_within h j q.entry q.here in let s : j ≡ i = cc in omega arith
number_within o xs h t (Storing j) i q e = let l : j < length h = get_within h j q.0 q.1 in let s : j ≡ i = cc in omega arith
number_within o xs h t Failing i q e = cc
number_within o xs h t (Voiding j) i q e = let l : j < length h = get_within h j q.0 q.1 in let s : j ≡ i = cc in omega arith

-- a free cell of version at most k shows its value at k
pub free_is_one : (o : List ℕ) (xs : List Cell) (h : List WordsEntry) (c k : ℕ) (x : Cell) → CellsOk o xs h → slice_get xs c ≡ Some x
    → IsOld x.lock k → k ≤ length h → IsOne o h k c (value o h c)
free_is_one o xs h c k x I e p l =
    let b : (p.0 ≡ version h c) × (x.value ≡ value o h c) × ((i u : ℕ) → deed h c i ≡ Will u → ⊥) = I c p.0 x e p.1 in
    (value-settled (deed h c) (slice_index o c) (length h) k (omega (arith, b.0, p.2)) l, λ i u m f. b.2 i u f)

-- one version at rv, and no later writer: one at each place from rv on
pub one_on : (o : List ℕ) (h : List WordsEntry) (c rv k v : ℕ) → IsOne o h rv c v → version h c ≤ rv → rv ≤ k → k ≤ length h
    → ((i u : ℕ) → i < k → deed h c i ≡ Will u → ⊥) → IsOne o h k c v
one_on o h c rv k v p a b l n =
    let d : value o h c ≡ v = sym (value-settled (deed h c) (slice_index o c) (length h) rv a (omega arith)) ∙ p.0 in
    (value-settled (deed h c) (slice_index o c) (length h) k (omega arith) l ∙ d, n)
