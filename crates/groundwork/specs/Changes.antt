-- Of the code's inside, apart from the rules: what becomes of a library that is shown where the cells of one slot are changed.
use Rattle.std.specs.Prelude.{◌≡◌, ℕ, List}
use Rattle.mmsyntax.specs.declared.statement.Kind.TheVariants.{Theorem}
use Rattle.mmsyntax.specs.declared.statement.Step.{Step}
use Rattle.library.specs.declared.library.Ranked.{Ranked}
use Rattle.library.specs.Edits.{changed, with_proof}
use Rattle.bodystore.specs.declared.stored.StoredStep.{StoredStep}
use Rattle.cells.specs.State.{State}
use Rattle.cells.specs.Shows.{AreStoredAs}
use Rattle.cells.specs.Sight.{Sight, after}
use Rattle.cells.specs.Lookups.{IsFoundAt}
use Rattle.cells.specs.Counts.{AreCitedSlots, AreOnlyIn}
use Rattle.cells.specs.Answers.{ForEachBefore, ShowsAfter}

-- what is so of every library in which the slot holds the assertion with the label
abbrev pub ForEachFound : {O : Type 0} → Sight O → Sight O → ℕ → List ℕ → (State → List Ranked → Ranked → Type 0) → Type 0
ForEachFound old new i label told =
    ForEachBefore old new (λ st lib. (at : IsFoundAt old.setting.slots (after old st) lib label i) → told st lib at.entry)

-- the theorem in the slot has other steps, which are stored as these
abbrev pub ReprovesAt : {O : Type 0} → Sight O → Sight O → ℕ → List ℕ → List StoredStep → Type 0
ReprovesAt old new i label kept = ForEachFound old new i label (λ st lib e. (steps : List Step) → e.assertion.kind ≡ Theorem
    → AreStoredAs old.setting.slots (after old st) steps kept → ShowsAfter new st (changed label (with_proof steps) lib))

-- the slots that the former steps cite and these don't, and those that these cite and the former don't
pub record AreExchanged (former kept : List StoredStep) (dropped gained : List ℕ) : Type 0 where
  pub before : List ℕ
  pub now : List ℕ
  pub cited_before : AreCitedSlots former before
  pub cited_now : AreCitedSlots kept now
  pub drops : AreOnlyIn before now dropped
  pub gains : AreOnlyIn now before gained
