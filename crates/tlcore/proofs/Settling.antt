-- Histories in which an entry is settled.
use Rattle.std.proofs.Common.{List, Some, [], ap, arith, inl, inr, length, refl, slice_get, slice_set, suc, sym, zero, ℕ, ◌∷◌, ◌≡◌, ◌≢◌}
use Rattle.std.proofs.Common.{◌≤◌, ◌⊎◌}
use Rattle.tlcore.specs.History.{WordsEntry, Status, deed, deed_in, deed_of, settle}
use Rattle.ranges.specs.Pairs.{written}

pub length-settle : (h : List WordsEntry) (i : ℕ) (s : Status) → length (settle h i s) ≡ length h
length-settle [] i s = refl
length-settle (e ∷ h) zero s = refl
length-settle (e ∷ h) (suc i) s = ap suc (length-settle h i s)

pub get-settle_same : (h : List WordsEntry) (i : ℕ) (s : Status) (e : WordsEntry) → slice_get h i ≡ Some e
    → slice_get (settle h i s) i ≡ Some (record e { status = s })
get-settle_same [] i s e p = cc
get-settle_same (d ∷ h) zero s e p = let q : d ≡ e = cc in ap (λ (x : WordsEntry). Some (record x { status = s })) q
get-settle_same (d ∷ h) (suc i) s e p = get-settle_same h i s e p

pub get-settle_other : (h : List WordsEntry) (i j : ℕ) (s : Status) → j ≢ i → slice_get (settle h i s) j ≡ slice_get h j
get-settle_other [] i j s n = refl
get-settle_other (d ∷ h) zero zero s n = absurd (n refl)
get-settle_other (d ∷ h) zero (suc j) s n = refl
get-settle_other (d ∷ h) (suc i) zero s n = refl
get-settle_other (d ∷ h) (suc i) (suc j) s n = get-settle_other h i j s (λ e. n (ap suc e))

pub get-settle_cases : (h : List WordsEntry) (i j : ℕ) (s : Status) (e : WordsEntry) → slice_get (settle h i s) j ≡ Some e
    → ((j ≡ i) × ((d : WordsEntry) × (slice_get h i ≡ Some d) × (e ≡ record d { status = s }))) ⊎ ((j ≢ i) × (slice_get h j ≡ Some e))
get-settle_cases [] i j s e p = cc
get-settle_cases (d ∷ h) zero zero s e p = inl (refl, (d, refl, cc))
get-settle_cases (d ∷ h) zero (suc j) s e p = inr (omega arith, p)
get-settle_cases (d ∷ h) (suc i) zero s e p = inr (omega arith, p)
get-settle_cases (d ∷ h) (suc i) (suc j) s e p = elim (get-settle_cases h i j s e p) [
  | inl q ↦ inl (ap suc q.0, q.1)
  | inr q ↦ inr (λ x. q.0 (omega arith), q.1)
]

pub deed_elsewhere : (h : List WordsEntry) (i : ℕ) (z : Status) (c j : ℕ) → j ≢ i → deed (settle h i z) c j ≡ deed h c j
deed_elsewhere h i z c j n = ap (deed_in c) (get-settle_other h i j z n)

pub deed_there : (h : List WordsEntry) (i : ℕ) (z : Status) (c : ℕ) (e : WordsEntry) → slice_get h i ≡ Some e
    → deed (settle h i z) c i ≡ deed_of z (written c e.writes)
deed_there h i z c e p = ap (deed_in c) (get-settle_same h i z e p)

pub deed_now : (h : List WordsEntry) (i c : ℕ) (e : WordsEntry) → slice_get h i ≡ Some e
    → deed h c i ≡ deed_of e.status (written c e.writes)
deed_now h i c e p = ap (deed_in c) p

-- the entry had that status already
pub settle_same : (h : List WordsEntry) (i : ℕ) (e : WordsEntry) → slice_get h i ≡ Some e → settle h i e.status ≡ h
settle_same [] i e p = refl
settle_same (d ∷ h) zero e p = let q : d ≡ e = cc in ap (λ (y : WordsEntry). record d { status = y.status } ∷ h) (sym q)
settle_same (d ∷ h) (suc i) e p = ap (λ (y : List WordsEntry). d ∷ y) (settle_same h i e p)

pub settle_set : (h : List WordsEntry) (i : ℕ) (s : Status) (e : WordsEntry) → slice_get h i ≡ Some e
    → slice_set h i (record e { status = s }) ≡ settle h i s
settle_set [] i s e p = cc
settle_set (d ∷ h) zero s e p = let q : d ≡ e = cc in ap (λ (y : WordsEntry). record y { status = s } ∷ h) (sym q)
settle_set (d ∷ h) (suc i) s e p = ap (λ (y : List WordsEntry). d ∷ y) (settle_set h i s e p)

pub settle_past : (h : List WordsEntry) (i : ℕ) (s : Status) → length h ≤ i → h ≡ settle h i s
settle_past [] i s l = refl
settle_past (d ∷ h) zero s l = absurd (omega arith)
settle_past (d ∷ h) (suc i) s l = ap (λ (y : List WordsEntry). d ∷ y) (settle_past h i s (omega arith))
