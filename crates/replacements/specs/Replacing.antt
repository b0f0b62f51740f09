-- Of the code's inside, apart from the rules: what the tests of another citation tell, for every state that may be under the run.
use Rattle.std.specs.Prelude.{◌≡◌, ℕ, ◌==◌, ◌||◌, if◌then◌else◌, nat_le, Bool, Contains}
use Rattle.mmsyntax.specs.Tables.{Tables}
use Rattle.mmframes.specs.Frames.{frame}
use Rattle.library.specs.declared.library.Ranked.{Ranked}
use Rattle.library.specs.Edits.{is_alike}
use Rattle.bodystore.specs.declared.stored.StoredStep.{StoredStep}
use Rattle.bodystore.specs.declared.stored.StoredStep.TheVariants.{Float, Hyp, Slot}
use Rattle.cells.specs.Shows.{Holds}
use Rattle.cells.specs.Sight.{Sight}
use Rattle.cells.specs.Lookups.{ForEachHeld}

-- whether the assertion in the slot `new` may stand where the one in the slot `old` is cited
abbrev pub TellsAlike : {O : Type 0} → Sight O → Tables → ℕ → ℕ → Bool → Type 0
TellsAlike s prelude old new b =
    ForEachHeld s old (λ st lib e. (f : Ranked) → Contains lib f → Holds s.setting.slots st lib new f
    → b ≡ is_alike (frame prelude e.assertion) (frame prelude f.assertion))

-- whether the assertion in the slot `cited` isn't of a lower rank than the one in the slot `citing`
abbrev pub TellsNotLower : {O : Type 0} → Sight O → ℕ → ℕ → Bool → Type 0
TellsNotLower s citing cited b =
    ForEachHeld s citing (λ st lib e. (f : Ranked) → Contains lib f → Holds s.setting.slots st lib cited f → b ≡ nat_le e.rank f.rank)

-- the step with the slot `new` where it has `old`, or what is none of so many slots
abbrev pub recited_step : ℕ → ℕ → ℕ → StoredStep → StoredStep
recited_step slots old new (Float i) = Float i
recited_step slots old new (Hyp k) = Hyp k
recited_step slots old new (Slot i) = Slot (if i == old || nat_le slots i then new else i)
