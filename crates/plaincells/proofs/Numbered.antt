-- All values of the cells, each with its cell, as what is kept aside.
use Rattle.std.proofs.Common.{◌≡◌, ◌≢◌, ℕ, zero, suc, ◌+◌, List, [], ◌∷◌, length, get_or, Option, Some, inl, inr, refl, sym, ap, ◌∙◌, arith, true, false, get_or-set_same}
use Rattle.std.specs.Prelude.{◌⊎◌, ◌==◌, if◌then◌else◌, slice_get, nat_eq, ◌<◌}
use Rattle.std.proofs.lemmas.Bool.Decides.{eqb_tells}
use Rattle.std.proofs.Math.ListN.{set}
use Rattle.std.proofs.lemmas.List.{length-set}
use Rattle.std.proofs.lemmas.Option.{slice_get-get_or}
use Rattle.ranges.specs.Pairs.{written}
use Rattle.ranges.specs.Ranges.{Range}
use Rattle.cells.specs.State.{with_writes, value_or}
use Rattle.plaincells.specs.Plain.{numbered_from}

written_from : (vs : List ℕ) (n j c : ℕ) → j ≡ n + c → written j (numbered_from n vs) ≡ slice_get vs c
written_from [] n j c e = refl
written_from (v ∷ vs) n j zero e = go (eqb_tells n j)
  where
    go : ((nat_eq n j ≡ true) × (n ≡ j)) ⊎ ((nat_eq n j ≡ false) × (n ≢ j))
        → (if n == j then Some v else written j (numbered_from (suc n) vs)) ≡ Some v
    go (inl h) = ap (λ b. if b then Some v else written j (numbered_from (suc n) vs)) h.0
    go (inr h) = absurd (h.1 (omega arith))
written_from (v ∷ vs) n j (suc c) e = go (written_from vs (suc n) j c (omega arith)) (eqb_tells n j)
  where
    go : written j (numbered_from (suc n) vs) ≡ slice_get vs c → ((nat_eq n j ≡ true) × (n ≡ j)) ⊎ ((nat_eq n j ≡ false) × (n ≢ j))
        → (if n == j then Some v else written j (numbered_from (suc n) vs)) ≡ slice_get vs c
    go later (inl h) = let at : n ≡ j = h.1 in absurd (omega arith)
    go later (inr h) = ap (λ b. if b then Some v else written j (numbered_from (suc n) vs)) h.0 ∙ later

-- what is kept aside for a cell is its value
pub written_numbered : (vs : List ℕ) (c : ℕ) → written c (numbered_from 0 vs) ≡ slice_get vs c
written_numbered vs c = written_from vs 0 c c (omega arith)

value_or-slice_get : (vs base : List ℕ) (c : ℕ) → length base ≡ length vs → value_or (slice_get vs c) (get_or base c 0) ≡ get_or vs c 0
value_or-slice_get [] [] c long = refl
value_or-slice_get [] (b ∷ base) c long = absurd (omega arith)
value_or-slice_get (v ∷ vs) [] c long = absurd (omega arith)
value_or-slice_get (v ∷ vs) (b ∷ base) zero long = refl
value_or-slice_get (v ∷ vs) (b ∷ base) (suc c) long = value_or-slice_get vs base c (omega arith)

-- with all values kept aside, a state of as many values is that of these
pub over_all : (vs base : List ℕ) (ranges : List Range) → length base ≡ length vs
    → with_writes (record { value = λ c. get_or base c 0; ranges = ranges }) (numbered_from 0 vs) ≡ record {
      value =
          λ c. get_or vs c 0;
      ranges = ranges;
    }
over_all vs base ranges long = λ i. record { value = λ c. value_at c i; ranges = ranges }
  where
    value_at : (c : ℕ) → value_or (written c (numbered_from 0 vs)) (get_or base c 0) ≡ get_or vs c 0
    value_at c = ap (λ (o : Option ℕ). value_or o (get_or base c 0)) (written_numbered vs c) ∙ value_or-slice_get vs base c long

-- and the value of any state in a cell that is kept aside
pub value_kept : (vs : List ℕ) (c x : ℕ) → c < length vs → value_or (written c (numbered_from 0 vs)) x ≡ get_or vs c 0
value_kept vs c x lt = ap (λ (o : Option ℕ). value_or o x) (written_numbered vs c) ∙ inside vs c lt
  where
    inside : (us : List ℕ) (d : ℕ) → d < length us → value_or (slice_get us d) x ≡ get_or us d 0
    inside [] d l = absurd (omega arith)
    inside (u ∷ us) zero l = refl
    inside (u ∷ us) (suc d) l = inside us d (omega arith)

pub slice_get-set_same : (vs : List ℕ) (c v : ℕ) → c < length vs → slice_get (set vs c v) c ≡ Some v
slice_get-set_same vs c v lt =
    slice_get-get_or (set vs c v) c 0 (omega (arith, length-set vs c v)) ∙ ap (λ (x : ℕ). Some x) (get_or-set_same vs c v 0 lt)

pub slice_get-set_other : (vs : List ℕ) (c v d : ℕ) → d ≢ c → slice_get (set vs c v) d ≡ slice_get vs d
slice_get-set_other [] c v d ne = refl
slice_get-set_other (u ∷ vs) zero v zero ne = absurd (ne refl)
slice_get-set_other (u ∷ vs) zero v (suc d) ne = refl
slice_get-set_other (u ∷ vs) (suc c) v zero ne = refl
slice_get-set_other (u ∷ vs) (suc c) v (suc d) ne = slice_get-set_other vs c v d (λ e. ne (ap (λ (n : ℕ). suc n) e))

slice_get-set : (vs : List ℕ) (c v d : ℕ) → c < length vs → slice_get (set vs c v) d ≡ (if d == c then Some v else slice_get vs d)
slice_get-set vs c v d lt = go (eqb_tells d c)
  where
    go : ((nat_eq d c ≡ true) × (d ≡ c)) ⊎ ((nat_eq d c ≡ false) × (d ≢ c))
        → slice_get (set vs c v) d ≡ (if d == c then Some v else slice_get vs d)
    go (inl h) =
        ap (slice_get (set vs c v)) h.1 ∙ slice_get-set_same vs c v lt ∙ sym (ap (λ b. if b then Some v else slice_get vs d) h.0)
    go (inr h) = slice_get-set_other vs c v d h.1 ∙ sym (ap (λ b. if b then Some v else slice_get vs d) h.0)

-- one value more that is kept aside
pub written_set : (vs : List ℕ) (c v d : ℕ) → c < length vs
    → written d (numbered_from 0 (set vs c v)) ≡ (if d == c then Some v else written d (numbered_from 0 vs))
written_set vs c v d lt =
    written_numbered (set vs c v) d ∙ slice_get-set vs c v d lt
    ∙ ap (λ (o : Option ℕ). if d == c then Some v else o) (sym (written_numbered vs d))
