-- Of the code's inside, apart from the rules: what the look for citers tells, for every state that may be under the run.
use Rattle.std.specs.Prelude.{◌≡◌, ℕ, ◌&&◌, nat_le, Bool, true, false, List, Contains}
use Rattle.std.specs.List.{list_any}
use Rattle.library.specs.declared.library.Ranked.{Ranked}
use Rattle.library.specs.Library.{label_of}
use Rattle.library.specs.Edits.{cites}
use Rattle.cells.specs.State.{State}
use Rattle.cells.specs.Shows.{Holds}
use Rattle.cells.specs.Sight.{Sight}
use Rattle.cells.specs.Lookups.{ForEach, ForEachHeld}

-- whether an assertion that cites the one in the slot isn't above the rank
abbrev pub TellsCitedUpTo : {O : Type 0} → Sight O → ℕ → ℕ → Bool → Type 0
TellsCitedUpTo s i rank b = ForEachHeld s i (λ st lib e. b ≡ list_any (λ f. cites (label_of e) f && nat_le f.rank rank) lib)

-- what the slot j holds doesn't cite what the slot i holds, or is above the rank
abbrev pub IsUncited : ℕ → ℕ → ℕ → ℕ → State → List Ranked → Type 0
IsUncited slots i rank j st lib =
    (e f : Ranked) → Contains lib e → Holds slots st lib i e → Contains lib f → Holds slots st lib j f
    → (cites (label_of e) f && nat_le f.rank rank) ≡ false

-- whether the assertion in the one slot cites that in the other, and isn't above the rank
abbrev pub TellsCitesUpTo : {O : Type 0} → Sight O → ℕ → ℕ → ℕ → Bool → Type 0
TellsCitesUpTo s citing cited rank true = TellsCitedUpTo s cited rank true
TellsCitesUpTo s citing cited rank false = ForEach s (IsUncited s.setting.slots cited rank citing)
