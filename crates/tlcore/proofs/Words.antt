-- Statuses and places that are different, for other crates, whose words run the machine's events.
use Rattle.std.proofs.Common.{Bool, ap, inl, inr, refl, sym, true, false, ℕ, ◌∙◌, ◌≡◌, ◌⊎◌}
use Rattle.tlcore.specs.declared.entries.Status.TheVariants.{Open, Void, Done}
use Rattle.tlcore.specs.declared.seats.Phase.{Phase}
use Rattle.tlcore.specs.declared.seats.Phase.TheVariants.{Idle, Reading, Looked, Loaded, Taking, Checking, Storing, Failing, Voiding}
use Rattle.tlcore.specs.Seats.{is_resting, is_reading}

-- a run that has looked at a cell and not looked again
abbrev pub is_looking : Phase → Bool
is_looking Idle = false
is_looking Reading = false
is_looking (Looked c word) = true
is_looking (Loaded c word value) = true
is_looking Taking = false
is_looking (Checking i upto) = false
is_looking (Storing i) = false
is_looking Failing = false
is_looking (Voiding i) = false

pub not_looking : (p : Phase) → is_looking p ≡ false → (c word value : ℕ) → (p ≡ Looked c word) ⊎ (p ≡ Loaded c word value) → ⊥
not_looking p e c word value (inl q) = let b : true ≡ false = sym (ap is_looking q) ∙ e in cc
not_looking p e c word value (inr q) = let b : true ≡ false = sym (ap is_looking q) ∙ e in cc

pub looked_same : (c word d other : ℕ) → Looked c word ≡ Looked d other → (c ≡ d) × (word ≡ other)
looked_same c word d other e = let a : c ≡ d = cc in let b : word ≡ other = cc in (a, b)

pub loaded_same : (c word value d other seen : ℕ) → Loaded c word value ≡ Loaded d other seen → (c ≡ d) × (word ≡ other)
loaded_same c word value d other seen e = let a : c ≡ d = cc in let b : word ≡ other = cc in (a, b)

pub looked_not_loaded : (c word d other seen : ℕ) → Looked c word ≡ Loaded d other seen → ⊥
looked_not_loaded c word d other seen e = cc

pub landed_not_open : Done ≡ Open → ⊥
landed_not_open e = cc

pub void_not_open : Void ≡ Open → ⊥
void_not_open e = cc

pub resting_at : (p : Phase) → is_resting p ≡ true → (p ≡ Idle) ⊎ (p ≡ Reading)
resting_at Idle e = inl refl
resting_at Reading e = inr refl
resting_at (Looked c word) e = absurd (cc)
resting_at (Loaded c word value) e = absurd (cc)
resting_at Taking e = absurd (cc)
resting_at (Checking i upto) e = absurd (cc)
resting_at (Storing i) e = absurd (cc)
resting_at Failing e = absurd (cc)
resting_at (Voiding i) e = absurd (cc)

pub reading_at : (p : Phase) → is_reading p ≡ true → p ≡ Reading
reading_at Idle e = absurd (cc)
reading_at Reading e = refl
reading_at (Looked c word) e = absurd (cc)
reading_at (Loaded c word value) e = absurd (cc)
reading_at Taking e = absurd (cc)
reading_at (Checking i upto) e = absurd (cc)
reading_at (Storing i) e = absurd (cc)
reading_at Failing e = absurd (cc)
reading_at (Voiding i) e = absurd (cc)
