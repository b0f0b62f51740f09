-- Of the code's inside, apart from the rules: what becomes of a library that is shown where an assertion is removed, and of which cells.
use Rattle.std.specs.Prelude.{◌≡◌, ℕ, List}
use Rattle.library.specs.Edits.{citers, without}
use Rattle.cells.specs.Sight.{Sight, after}
use Rattle.cells.specs.Answers.{ShowsAfter}
use Rattle.cells.specs.Aside.{KeepsAside}
use Rattle.groundwork.specs.Changes.{ForEachFound}
use Rattle.groundwork.specs.Touches.{IsOfDeletion}

-- the assertion in the slot is gone where no proof cites it
abbrev pub DeletesAt : {O : Type 0} → Sight O → Sight O → ℕ → List ℕ → Type 0
DeletesAt old new i label = ForEachFound old new i label (λ st lib e. citers lib label ≡ 0 → ShowsAfter new st (without label lib))

-- where the assertion in the slot is removed
abbrev pub DeletesWithin : {O : Type 0} → Sight O → Sight O → ℕ → List ℕ → Type 0
DeletesWithin old new i label = ForEachFound old new i label (λ st lib e.
    KeepsAside (IsOfDeletion old.setting.slots (after old st) lib i e) old new)
