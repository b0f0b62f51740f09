-- For which cells calls ask, through the calls of a run.
use Rattle.std.proofs.Common.{◌≡◌, ℕ, zero, suc, ◌<◌, List, [], ◌∷◌, length, get_or, refl, sym, subst, ◌∙◌, inl, inr, ⊎_elim, arith}
use Rattle.ranges.specs.Ranges.{Has}
use Rattle.cells.specs.Sight.{Sight, Writes, ReadsWithin, ReadsNothing}

-- what stands at a place of a list is of the list
pub item_has : {A : Type 0} → (xs : List A) (i : ℕ) (d : A) → i < length xs → Has (get_or xs i d) xs
item_has [] i d lt = absurd (omega (arith, lt))
item_has (x ∷ xs) zero d lt = inl refl
item_has (x ∷ xs) (suc i) d lt = inr (item_has xs i d (omega (arith, lt)))

-- ---- nothing is read

pub nothing_same : {O : Type 0} → (s : Sight O) → ReadsNothing s s
nothing_same s = record { asked = λ c was. was }

pub nothing_trans : {O : Type 0} → {r s t : Sight O} → ReadsNothing r s → ReadsNothing s t → ReadsNothing r t
nothing_trans first then = record { asked = λ c was. first.asked c (then.asked c was) }

-- a cell that is written is not read by that
pub nothing_written : {O : Type 0} → {cell v : ℕ} → {s t : Sight O} → Writes cell v s t → ReadsNothing s t
nothing_written w =
    record {
      asked = λ c was. ⊎_elim (λ read. inl (read.0, subst (Has (c, read.0)) w.reads read.1)) (λ stopped. inr (sym w.halted ∙ stopped)) was;
    }

-- ---- some cells are read

pub asks_nothing : {O : Type 0} → {such : ℕ → Type 0} → {s t : Sight O} → ReadsNothing s t → ReadsWithin such s t
asks_nothing none = record { asked = λ c was. inl (none.asked c was) }

pub asks_trans : {O : Type 0} → {such : ℕ → Type 0} → {r s t : Sight O} → ReadsWithin such r s → ReadsWithin such s t → ReadsWithin such r t
asks_trans first then = record { asked = λ c was. ⊎_elim (λ before. first.asked c before) (λ is. inr is) (then.asked c was) }

-- what is read of these is so of more
pub asks_wider : {O : Type 0} → {some such : ℕ → Type 0} → {s t : Sight O} → ((c : ℕ) → some c → such c) → ReadsWithin some s t
    → ReadsWithin such s t
asks_wider wider asks = record { asked = λ c was. ⊎_elim (λ before. inl before) (λ is. inr (wider c is)) (asks.asked c was) }

-- and then more of them
pub asks_more : {O : Type 0} → {some such : ℕ → Type 0} → {r s t : Sight O} → ReadsWithin such r s → ((c : ℕ) → some c → such c)
    → ReadsWithin some s t → ReadsWithin such r t
asks_more first wider then = asks_trans first (asks_wider wider then)

-- and then nothing, or nothing and then some
pub asks_still : {O : Type 0} → {such : ℕ → Type 0} → {r s t : Sight O} → ReadsWithin such r s → ReadsNothing s t → ReadsWithin such r t
asks_still first none = record { asked = λ c was. first.asked c (none.asked c was) }

pub asks_after : {O : Type 0} → {such : ℕ → Type 0} → {r s t : Sight O} → ReadsNothing r s → ReadsWithin such s t → ReadsWithin such r t
asks_after none then = record { asked = λ c was. ⊎_elim (λ before. inl (none.asked c before)) (λ is. inr is) (then.asked c was) }

-- one cell
pub asks_cell : {O : Type 0} → {such : ℕ → Type 0} → {cell : ℕ} → {s t : Sight O} → such cell → ReadsWithin (λ c. c ≡ cell) s t
    → ReadsWithin such s t
asks_cell {such = such} here one = asks_wider (λ c is. subst such (sym is) here) one
