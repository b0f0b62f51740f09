-- Logs of what cells held, and undoing them.
use Rattle.std.proofs.Common.{◌≡◌, ◌≢◌, ℕ, zero, suc, List, [], ◌∷◌, ◌++◌, length, get_or, set, inl, inr, refl, sym, ap, subst, ◌∙◌}
use Rattle.std.specs.Prelude.{◌⊎◌, ◌<◌}
use Rattle.std.proofs.lemmas.Bool.{cases_eq}
use Rattle.std.proofs.lemmas.List.{length-set, set-get_or}
use Rattle.ranges.specs.Pairs.{Pairs}
use Rattle.ranges.specs.Ranges.{Has}
use Rattle.cells.specs.State.{State, FitsReads}
use Rattle.plaincells.specs.Plain.{undone, read_at_first, IsLogOf}

-- ---- lists

pub has_front : {A : Type 0} (x : A) (xs ys : List A) → Has x xs → Has x (xs ++ ys)
has_front x [] ys h = absurd h
has_front x (y ∷ xs) ys (inl e) = inl e
has_front x (y ∷ xs) ys (inr h) = inr (has_front x xs ys h)

pub has_last : {A : Type 0} (x : A) (xs : List A) → Has x (xs ++ x ∷ [])
has_last x [] = inl refl
has_last x (y ∷ xs) = inr (has_last x xs)

set_again : (xs : List ℕ) (c v w : ℕ) → set (set xs c v) c w ≡ set xs c w
set_again [] c v w = refl
set_again (x ∷ xs) zero v w = refl
set_again (x ∷ xs) (suc c) v w = ap (λ ys. x ∷ ys) (set_again xs c v w)

set_apart : (xs : List ℕ) (c d v w : ℕ) → c ≢ d → set (set xs c v) d w ≡ set (set xs d w) c v
set_apart [] c d v w ne = refl
set_apart (x ∷ xs) zero zero v w ne = absurd (ne refl)
set_apart (x ∷ xs) zero (suc d) v w ne = refl
set_apart (x ∷ xs) (suc c) zero v w ne = refl
set_apart (x ∷ xs) (suc c) (suc d) v w ne = ap (λ ys. x ∷ ys) (set_apart xs c d v w (λ e. ne (ap (λ n. suc n) e)))

-- ---- undoing

pub length-undone : (values : List ℕ) (log : Pairs) → length (undone values log) ≡ length values
length-undone values [] = refl
length-undone values (p ∷ log) = length-set (undone values log) p.0 p.1 ∙ length-undone values log

-- the last entry is undone first
pub undone-push : (values : List ℕ) (log : Pairs) (p : ℕ × ℕ) → undone values (log ++ p ∷ []) ≡ undone (set values p.0 p.1) log
undone-push values [] p = refl
undone-push values (q ∷ log) p = ap (λ xs. set xs q.0 q.1) (undone-push values log p)

-- a cell that is read is undone to what it holds
pub undone_read : (values : List ℕ) (log : Pairs) (c : ℕ) → undone values (log ++ (c, get_or values c 0) ∷ []) ≡ undone values log
undone_read values log c = undone-push values log (c, get_or values c 0) ∙ ap (λ xs. undone xs log) (set-get_or values c 0)

-- where one cell is given a value at the end, it does not matter what it had before
undone_set : (values : List ℕ) (log : Pairs) (c v w : ℕ) → set (undone (set values c v) log) c w ≡ set (undone values log) c w
undone_set values [] c v w = set_again values c v w
undone_set values (q ∷ log) c v w = go (undone_set values log c v w) (cases_eq q.0 c)
  where
    old : List ℕ
    old = undone values log

    new : List ℕ
    new = undone (set values c v) log

    same : set new c w ≡ set old c w → set (set new c q.1) c w ≡ set (set old c q.1) c w
    same e = set_again new c q.1 w ∙ e ∙ sym (set_again old c q.1 w)

    go : set new c w ≡ set old c w → (q.0 ≡ c) ⊎ (q.0 ≡ c → ⊥) → set (set new q.0 q.1) c w ≡ set (set old q.0 q.1) c w
    go before (inl e) = subst (λ (n : ℕ). set (set new n q.1) c w ≡ set (set old n q.1) c w) (sym e) (same before)
    go before (inr ne) =
        set_apart new q.0 c q.1 w ne ∙ ap (λ xs. set xs q.0 q.1) before ∙ sym (set_apart old q.0 c q.1 w ne)

-- a value in a cell of the log is undone
pub undone_write : (values base : List ℕ) (log : Pairs) (c v w : ℕ) → Has (c, w) (read_at_first base log)
    → undone (set values c v) log ≡ undone values log
undone_write values base [] c v w h = absurd h
undone_write values base (q ∷ log) c v w (inl e) =
    let at : c ≡ q.0 = ap (λ (p : ℕ × ℕ). p.0) e in
    subst (λ (n : ℕ). set (undone (set values n v) log) q.0 q.1 ≡ set (undone values log) q.0 q.1) (sym at)
    (undone_set values log q.0 v q.1)
undone_write values base (q ∷ log) c v w (inr h) = ap (λ xs. set xs q.0 q.1) (undone_write values base log c v w h)

-- ---- what was read

pub read_at_first-push : (base : List ℕ) (log : Pairs) (p : ℕ × ℕ)
    → read_at_first base (log ++ p ∷ []) ≡ read_at_first base log ++ (p.0, get_or base p.0 0) ∷ []
read_at_first-push base [] p = refl
read_at_first-push base (q ∷ log) p = ap (λ ps. (q.0, get_or base q.0 0) ∷ ps) (read_at_first-push base log p)

pub fits_front : (st : State) (ps qs : Pairs) → FitsReads st (ps ++ qs) → FitsReads st ps
fits_front st [] qs h = tt
fits_front st (p ∷ ps) qs h = (h.0, fits_front st ps qs h.1)

-- what was read fits the values with which the run began
pub fits_first : (st : State) (base : List ℕ) (log : Pairs) → ((c : ℕ) → st.value c ≡ get_or base c 0)
    → FitsReads st (read_at_first base log)
fits_first st base [] same = tt
fits_first st base (p ∷ log) same = (same p.0, fits_first st base log same)

-- ---- the cells of a log

pub logged_push : (count : ℕ) (log : Pairs) (p : ℕ × ℕ) → IsLogOf count log → p.0 < count → IsLogOf count (log ++ p ∷ [])
logged_push count [] p l lt zero q at = subst (λ (r : ℕ × ℕ). r.0 < count) (let e : p ≡ q = cc in e) lt
logged_push count [] p l lt (suc i) q at = cc
logged_push count (x ∷ log) p l lt zero q at = l zero q at
logged_push count (x ∷ log) p l lt (suc i) q at = logged_push count log p (λ j r e. l (suc j) r e) lt i q at

pub logged_front : (count : ℕ) (log : Pairs) (p : ℕ × ℕ) → IsLogOf count (log ++ p ∷ []) → IsLogOf count log
logged_front count [] p l i q at = absurd cc
logged_front count (x ∷ log) p l zero q at = l zero q at
logged_front count (x ∷ log) p l (suc i) q at = logged_front count log p (λ j r e. l (suc j) r e) i q at

pub logged_last : (count : ℕ) (log : Pairs) (p : ℕ × ℕ) → IsLogOf count (log ++ p ∷ []) → p.0 < count
logged_last count [] p l = l zero p refl
logged_last count (x ∷ log) p l = logged_last count log p (λ j r e. l (suc j) r e)
