-- The cells that a run holds while it commits, in ascending order.
use Rattle.std.proofs.Common.{◌≡◌, ◌≢◌, ℕ, zero, suc, ◌+◌, ◌<◌, ◌≤◌, ◌⊎◌, inl, inr, ⊎_elim, eq-eqb, ne_eqb, Bool, true, false, nat_lt}
use Rattle.std.proofs.Common.{nat_le, ◌||◌, ◌&&◌, not, if◌then◌else◌, Option, Some, None, List, [], ◌∷◌, sym, refl, ap, ◌∙◌, arith}
use Rattle.std.proofs.lemmas.Bool.Decides.{nat_tests}
use mathlib.Core.Logic.{dite}
use native.Mathlib.Decide.{ℕ_discrete}
use Rattle.tlcore.specs.Seats.{find_held, is_held, all_below, without, with_stored, writes_of, marked}
use Rattle.tlcore.proofs.Lists.{option_known}
use Rattle.tlcore.proofs.Deeds.{up_to}
use Rattle.tlcore.specs.declared.seats.Held.{Held}
use Rattle.tlwords.specs.declared.log.Slot.{Slot}
use Rattle.ranges.specs.Pairs.{Pairs}
use Rattle.tlwords.specs.Runs.{word_seen, value_kept}
use Rattle.tlwords.specs.Commits.{with_write, writes_below}
use Rattle.tlwords.specs.Committing.{word_or_zero, with_held, held_in}

pub le_yes : (a b : ℕ) → a ≤ b → nat_le a b ≡ true
le_yes a b l = grind (arith, nat_tests)

pub le_no : (a b : ℕ) → b < a → nat_le a b ≡ false
le_no a b l = grind (arith, nat_tests)

pub lt_yes : (a b : ℕ) → a < b → nat_lt a b ≡ true
lt_yes a b l = grind (arith, nat_tests)

pub lt_no : (a b : ℕ) → b ≤ a → nat_lt a b ≡ false
lt_no a b l = grind (arith, nat_tests)

pub le_cases : (a b : ℕ) → (a ≤ b) ⊎ (b < a)
le_cases a b = grind arith

module _ (slots : List Slot) where
  -- no value is kept for the cells from a to before b
  abbrev pub NoneKept : ℕ → ℕ → Type 0
  NoneKept a b = (c : ℕ) → a ≤ c → c < b → value_kept slots c ≡ None

  -- the cell n, held for this value
  abbrev pub held_cell : ℕ → ℕ → ℕ → Held
  held_cell d n v = record { cell = n; word = word_or_zero (word_seen slots n); value = v; stored = nat_lt n d }

  step_none : (d low n : ℕ) → value_kept slots n ≡ None → held_in slots d low (suc n) ≡ held_in slots d low n
  step_none d low n e = ap (λ (o : Option ℕ). with_held slots d low n o (held_in slots d low n)) e

  step_low : (d low n v : ℕ) → value_kept slots n ≡ Some v → n < low → held_in slots d low (suc n) ≡ held_in slots d low n
  step_low d low n v e l =
      ap (λ (o : Option ℕ). with_held slots d low n o (held_in slots d low n)) e
      ∙ ap (λ (b : Bool). if b then held_cell d n v ∷ held_in slots d low n else held_in slots d low n) (le_no low n l)

  step_some : (d low n v : ℕ) → value_kept slots n ≡ Some v → low ≤ n
      → held_in slots d low (suc n) ≡ held_cell d n v ∷ held_in slots d low n
  step_some d low n v e l =
      ap (λ (o : Option ℕ). with_held slots d low n o (held_in slots d low n)) e
      ∙ ap (λ (b : Bool). if b then held_cell d n v ∷ held_in slots d low n else held_in slots d low n) (le_yes low n l)

  -- the cell n is held with a value, or isn't
  abbrev Steps : ℕ → ℕ → Type 0
  Steps low n = ((v : ℕ) × (value_kept slots n ≡ Some v) × (low ≤ n))
      ⊎ ((value_kept slots n ≡ None) ⊎ ((v : ℕ) × (value_kept slots n ≡ Some v) × (n < low)))

  steps : (low n : ℕ) → Steps low n
  steps low n = go (option_known (value_kept slots n)) (le_cases low n)
    where
      go : ((v : ℕ) × (value_kept slots n ≡ Some v)) ⊎ (value_kept slots n ≡ None) → (low ≤ n) ⊎ (n < low) → Steps low n
      go (inl e) (inl l) = inl (e.0, e.1, l)
      go (inl e) (inr l) = inr (inr (e.0, e.1, l))
      go (inr e) l = inr (inl e)

  -- a cell without a value isn't held
  step_not : (d low n : ℕ) → (value_kept slots n ≡ None) ⊎ ((v : ℕ) × (value_kept slots n ≡ Some v) × (n < low))
      → held_in slots d low (suc n) ≡ held_in slots d low n
  step_not d low n (inl e) = step_none d low n e
  step_not d low n (inr e) = step_low d low n e.0 e.1 e.2

  -- ---- what isn't kept isn't held

  pub held_on : (d low k n : ℕ) → k ≤ n → NoneKept k n → held_in slots d low n ≡ held_in slots d low k
  held_on d low k zero l unkept = let e : 0 ≡ k = omega arith in ap (held_in slots d low) e
  held_on d low k (suc n) l unkept = ⊎_elim (λ (e : k ≡ suc n). ap (held_in slots d low) (sym e))
      (λ (m : k ≤ n). step_none d low n (unkept n m (omega arith)) ∙ held_on d low k n m (λ c a b. unkept c a (omega arith))) (up_to k n l)

  pub held_none : (d low n : ℕ) → NoneKept low n → held_in slots d low n ≡ []
  held_none d low zero unkept = refl
  held_none d low (suc n) unkept = go (steps low n) (held_none d low n (λ c a b. unkept c a (omega arith)))
    where
      go : Steps low n → held_in slots d low n ≡ [] → held_in slots d low (suc n) ≡ []
      go (inl e) ih = let a : None ≡ Some e.0 = sym (unkept n e.2 (omega arith)) ∙ e.1 in cc
      go (inr e) ih = step_not d low n e ∙ ih

  -- the least cell from k on for which a value is kept is held too
  pub held_more : (k c v w : ℕ) → k ≤ c → NoneKept k c → value_kept slots c ≡ Some v → word_seen slots c ≡ Some w
      → held_in slots 0 0 (c + 1) ≡ record { cell = c; word = w; value = v; stored = false } ∷ held_in slots 0 0 k
  held_more k c v w l unkept e f =
      ap (held_in slots 0 0) (let a : c + 1 ≡ suc c = omega arith in a) ∙ (step_some 0 0 c v e (omega arith)
      ∙ (λ j. (let h : Held = record { cell = c; word = word_or_zero (f j); value = v; stored = lt_no c 0 (omega arith) j } in h) ∷ held_on
      0 0 k c l unkept j))

  -- ---- the cells

  pub held_find : (d low n c v : ℕ) → low ≤ c → c < n → value_kept slots c ≡ Some v
      → find_held c (held_in slots d low n) ≡ Some (held_cell d c v)
  held_find d low zero c v l m e = absurd (omega arith)
  held_find d low (suc n) c v l m e = dite (ℕ_discrete n c)
      (λ (same : n ≡ c). ap (find_held c) (step_some d low n v (ap (value_kept slots) same ∙ e) (omega arith))
      ∙ (ap (λ (b : Bool). if b then Some (held_cell d n v) else find_held c (held_in slots d low n)) (eq-eqb n c same)
      ∙ ap (λ (x : ℕ). Some (held_cell d x v)) same))
      (λ (other : n ≢ c). go other (steps low n) (held_find d low n c v l (omega arith) e))
    where
      go : n ≢ c → Steps low n → find_held c (held_in slots d low n) ≡ Some (held_cell d c v)
          → find_held c (held_in slots d low (suc n)) ≡ Some (held_cell d c v)
      go other (inl s) ih =
          ap (find_held c) (step_some d low n s.0 s.1 s.2)
          ∙ (ap (λ (b : Bool). if b then Some (held_cell d n s.0) else find_held c (held_in slots d low n)) (ne_eqb n c other) ∙ ih)
      go other (inr s) ih = ap (find_held c) (step_not d low n s) ∙ ih

  pub held_yes : (d low n c v : ℕ) → low ≤ c → c < n → value_kept slots c ≡ Some v → is_held c (held_in slots d low n) ≡ true
  held_yes d low zero c v l m e = absurd (omega arith)
  held_yes d low (suc n) c v l m e = dite (ℕ_discrete n c)
      (λ (same : n ≡ c). ap (is_held c) (step_some d low n v (ap (value_kept slots) same ∙ e) (omega arith))
      ∙ ap (λ (b : Bool). b || is_held c (held_in slots d low n)) (eq-eqb n c same))
      (λ (other : n ≢ c). go other (steps low n) (held_yes d low n c v l (omega arith) e))
    where
      go : n ≢ c → Steps low n → is_held c (held_in slots d low n) ≡ true → is_held c (held_in slots d low (suc n)) ≡ true
      go other (inl s) ih =
          ap (is_held c) (step_some d low n s.0 s.1 s.2) ∙ (ap (λ (b : Bool). b || is_held c (held_in slots d low n)) (ne_eqb n c other)
          ∙ ih)
      go other (inr s) ih = ap (is_held c) (step_not d low n s) ∙ ih

  pub held_no : (d low n c : ℕ) → value_kept slots c ≡ None → is_held c (held_in slots d low n) ≡ false
  held_no d low zero c e = refl
  held_no d low (suc n) c e = go (steps low n) (held_no d low n c e)
    where
      go : Steps low n → is_held c (held_in slots d low n) ≡ false → is_held c (held_in slots d low (suc n)) ≡ false
      go (inl s) ih =
          ap (is_held c) (step_some d low n s.0 s.1 s.2) ∙ (ap (λ (b : Bool). b || is_held c (held_in slots d low n))
          (ne_eqb n c (λ x. let a : None ≡ Some s.0 = sym e ∙ (ap (value_kept slots) (sym x) ∙ s.1) in cc)) ∙ ih)
      go (inr s) ih = ap (is_held c) (step_not d low n s) ∙ ih

  pub held_below : (d low n c : ℕ) → n ≤ c → all_below c (held_in slots d low n) ≡ true
  held_below d low zero c l = refl
  held_below d low (suc n) c l = go (steps low n) (held_below d low n c (omega arith))
    where
      go : Steps low n → all_below c (held_in slots d low n) ≡ true → all_below c (held_in slots d low (suc n)) ≡ true
      go (inl s) ih =
          ap (all_below c) (step_some d low n s.0 s.1 s.2) ∙ (ap (λ (b : Bool). b && all_below c (held_in slots d low n))
          (lt_yes n c (omega arith)) ∙ ih)
      go (inr s) ih = ap (all_below c) (step_not d low n s) ∙ ih

  pub held_writes : (d n : ℕ) → writes_of (held_in slots d 0 n) ≡ writes_below slots n
  held_writes d zero = refl
  held_writes d (suc n) = go (steps 0 n) (held_writes d n)
    where
      go : Steps 0 n → writes_of (held_in slots d 0 n) ≡ writes_below slots n
          → writes_of (held_in slots d 0 (suc n)) ≡ writes_below slots (suc n)
      go (inl s) ih =
          ap writes_of (step_some d 0 n s.0 s.1 s.2)
          ∙ (ap (λ (ps : Pairs). (n, s.0) ∷ ps) ih ∙ sym (ap (λ (o : Option ℕ). with_write n o (writes_below slots n)) s.1))
      go (inr (inl e)) ih = step_writes e ∙ (ih ∙ sym (ap (λ (o : Option ℕ). with_write n o (writes_below slots n)) e))
        where
          step_writes : value_kept slots n ≡ None → writes_of (held_in slots d 0 (suc n)) ≡ writes_of (held_in slots d 0 n)
          step_writes e = ap writes_of (step_none d 0 n e)
      go (inr (inr s)) ih = let l : n < 0 = s.2 in absurd (omega arith)

  pub no_writes : (n : ℕ) → NoneKept 0 n → writes_below slots n ≡ []
  no_writes n unkept = sym (held_writes 0 n) ∙ ap writes_of (held_none 0 0 n unkept)

  -- ---- a store, and a release

  pub same_marks : (d e n v : ℕ) → nat_lt n d ≡ nat_lt n e → held_cell d n v ≡ held_cell e n v
  same_marks d e n v q = ap (λ (b : Bool). let k : Held =
      record { cell = n; word = word_or_zero (word_seen slots n); value = v; stored = b } in k) q

  -- the cell c is stored, and the kept ones below it were before
  pub held_stored : (d low n c : ℕ) → d ≤ c → NoneKept d c → with_stored c (held_in slots d low n) ≡ held_in slots (suc c) low n
  held_stored d low zero c l unkept = refl
  held_stored d low (suc n) c l unkept = go (steps low n) (held_stored d low n c l unkept)
    where
      above : (v : ℕ) → value_kept slots n ≡ Some v → n ≢ c → d ≤ n → suc c ≤ n
      above v e other m = ⊎_elim (λ (a : suc c ≤ n). a)
          (λ (a : n < suc c). let x : None ≡ Some v = sym (unkept n m (omega (arith, a, other))) ∙ e in cc)
          (le_cases (suc c) n)

      mark : (v : ℕ) → value_kept slots n ≡ Some v → marked c (held_cell d n v) ≡ held_cell (suc c) n v
      mark v e = dite (ℕ_discrete n c)
          (λ (same : n ≡ c). ap (λ (b : Bool). if b then record (held_cell d n v) { stored = true } else held_cell d n v) (eq-eqb n c same)
          ∙ ap (λ (b : Bool). let k : Held = record { cell = n; word = word_or_zero (word_seen slots n); value = v; stored = b } in k)
          (sym (lt_yes n (suc c) (omega arith))))
          (λ (other : n ≢ c). ap (λ (b : Bool). if b then record (held_cell d n v) { stored = true } else held_cell d n v)
          (ne_eqb n c other)
          ∙ same_marks d (suc c) n v (⊎_elim (λ (m : d ≤ n). lt_no n d m ∙ sym (lt_no n (suc c) (above v e other m)))
          (λ (m : n < d). lt_yes n d m ∙ sym (lt_yes n (suc c) (omega arith))) (le_cases d n)))

      go : Steps low n → with_stored c (held_in slots d low n) ≡ held_in slots (suc c) low n
          → with_stored c (held_in slots d low (suc n)) ≡ held_in slots (suc c) low (suc n)
      go (inl s) ih =
          ap (with_stored c) (step_some d low n s.0 s.1 s.2)
          ∙ ((λ j. mark s.0 s.1 j ∷ ih j) ∙ sym (step_some (suc c) low n s.0 s.1 s.2))
      go (inr s) ih = ap (with_stored c) (step_not d low n s) ∙ (ih ∙ sym (step_not (suc c) low n s))

  -- the cell c is released, and the kept ones below it were before
  pub held_without : (d low n c : ℕ) → low ≤ c → NoneKept low c → without c (held_in slots d low n) ≡ held_in slots d (suc c) n
  held_without d low zero c l unkept = refl
  held_without d low (suc n) c l unkept = go (option_known (value_kept slots n)) (le_cases (suc c) n) (held_without d low n c l unkept)
    where
      go : ((v : ℕ) × (value_kept slots n ≡ Some v)) ⊎ (value_kept slots n ≡ None) → (suc c ≤ n) ⊎ (n < suc c)
          → without c (held_in slots d low n) ≡ held_in slots d (suc c) n
          → without c (held_in slots d low (suc n)) ≡ held_in slots d (suc c) (suc n)
      go (inr e) m ih = ap (without c) (step_none d low n e) ∙ (ih ∙ sym (step_none d (suc c) n e))
      go (inl e) (inl m) ih =
          ap (without c) (step_some d low n e.0 e.1 (omega arith))
          ∙ (ap (λ (b : Bool). if not b then held_cell d n e.0 ∷ without c (held_in slots d low n) else without c (held_in slots d low n))
          (ne_eqb n c (omega arith))
          ∙ (ap (λ (ks : List Held). held_cell d n e.0 ∷ ks) ih ∙ sym (step_some d (suc c) n e.0 e.1 m)))
      go (inl e) (inr m) ih = dite (ℕ_discrete n c)
          (λ (same : n ≡ c). ap (without c) (step_some d low n e.0 e.1 (omega arith))
          ∙ (ap (λ (b : Bool). if not b then held_cell d n e.0 ∷ without c (held_in slots d low n) else without c (held_in slots d low n))
          (eq-eqb n c same)
          ∙ (ih ∙ sym (step_low d (suc c) n e.0 e.1 m))))
          (λ (other : n ≢ c). ⊎_elim
          (λ (a : low ≤ n). let x : None ≡ Some e.0 = sym (unkept n a (omega (arith, m, other))) ∙ e.1 in cc)
          (λ (a : n < low). ap (without c) (step_low d low n e.0 e.1 a) ∙ (ih ∙ sym (step_low d (suc c) n e.0 e.1 m))) (le_cases low n))

  -- all are stored
  pub held_done : (d e low n : ℕ) → n ≤ e → NoneKept d n → held_in slots d low n ≡ held_in slots e low n
  held_done d e low zero l unkept = refl
  held_done d e low (suc n) l unkept = go (steps low n) (held_done d e low n (omega arith) (λ c a b. unkept c a (omega arith)))
    where
      go : Steps low n → held_in slots d low n ≡ held_in slots e low n → held_in slots d low (suc n) ≡ held_in slots e low (suc n)
      go (inl s) ih = ⊎_elim
          (λ (a : d ≤ n). let x : None ≡ Some s.0 = sym (unkept n a (omega arith)) ∙ s.1 in cc)
          (λ (a : n < d). step_some d low n s.0 s.1 s.2 ∙ ((λ j. same_marks d e n s.0 (lt_yes n d a ∙ sym (lt_yes n e l)) j ∷ ih j)
          ∙ sym (step_some e low n s.0 s.1 s.2)))
          (le_cases d n)
      go (inr s) ih = step_not d low n s ∙ (ih ∙ sym (step_not e low n s))
