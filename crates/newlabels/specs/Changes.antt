-- Of the code's inside, apart from the rules: what becomes of a library that is shown where a slot gets another label, and of which cells.
use Rattle.std.specs.Prelude.{◌≡◌, ℕ, List, false, ◌⊎◌}
use Rattle.library.specs.Edits.{has, rename}
use Rattle.cells.specs.Sight.{Sight, Turns}
use Rattle.cells.specs.Answers.{ShowsAfter}
use Rattle.cells.specs.Slots.{name_cell}
use Rattle.cells.specs.Aside.{KeepsAside, IsOfFront, IsOfLeaving}
use Rattle.groundwork.specs.Changes.{ForEachFound}

-- the assertion with the label `from`, in the slot, has the label `to` where no assertion had it
abbrev pub RenamesAt : {O : Type 0} → Sight O → Sight O → ℕ → List ℕ → List ℕ → Type 0
RenamesAt old new i from to = ForEachFound old new i from (λ st lib e. has lib to ≡ false → ShowsAfter new st (rename from to lib))

-- where the slot gets another label
abbrev pub RenamesWithin : {O : Type 0} → Sight O → Sight O → ℕ → List ℕ → Type 0
RenamesWithin old new i to = let slots = old.setting.slots in Turns old new (λ st next.
    KeepsAside (λ c. (c ≡ name_cell i) ⊎ (IsOfLeaving slots st i c ⊎ IsOfFront slots i to c)) old new)
