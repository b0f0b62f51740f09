-- For which cells values are kept aside, through the calls of a run.
use Rattle.std.proofs.Common.{◌≡◌, ℕ, Some, sym, ap, ◌∙◌, inl, inr, ⊎_elim}
use Rattle.std.specs.Prelude.{◌==◌}
use Rattle.std.proofs.lemmas.Bool.{cases_eq, cond-false, ne_eqb}
use Rattle.ranges.specs.Pairs.{written}
use Rattle.cells.specs.Sight.{Sight, Writes}
use Rattle.cells.specs.Aside.{KeepsAside}

-- nothing is kept aside more where nothing is written
pub keeps_same : {O : Type 0} → (such : ℕ → Type 0) (s t : Sight O) → t.writes ≡ s.writes → KeepsAside such s t
keeps_same such s t same c was = inl (was.0, sym (ap (written c) same) ∙ was.1)

pub keeps_trans : {O : Type 0} → (such : ℕ → Type 0) (r s t : Sight O) → KeepsAside such r s → KeepsAside such s t → KeepsAside such r t
keeps_trans such r s t first then c was = ⊎_elim (λ before. first c before) (λ is. inr is) (then c was)

-- what is kept aside for these is so for more
pub keeps_wider : {O : Type 0} → (some such : ℕ → Type 0) (s t : Sight O) → ((c : ℕ) → some c → such c) → KeepsAside some s t
    → KeepsAside such s t
keeps_wider some such s t wider keeps c was = ⊎_elim (λ before. inl before) (λ is. inr (wider c is)) (keeps c was)

-- a cell that is written
pub keeps_written : {O : Type 0} → (cell v : ℕ) (s t : Sight O) → Writes cell v s t → KeepsAside (λ c. c ≡ cell) s t
keeps_written cell v s t w c was =
    elim (cases_eq c cell) [
      | inl is ↦ inr is
      | inr ne ↦ inl (was.0, sym (w.writes c ∙ cond-false (c == cell) (Some v) (written c s.writes) (ne_eqb c cell ne)) ∙ was.1)
    ]

-- one that is read before
pub keeps_put : {O : Type 0} → (cell v : ℕ) (r s t : Sight O) → s.writes ≡ r.writes → Writes cell v s t → KeepsAside (λ c. c ≡ cell) r t
keeps_put cell v r s t same w = keeps_trans (λ c. c ≡ cell) r s t (keeps_same (λ c. c ≡ cell) r s same) (keeps_written cell v s t w)
