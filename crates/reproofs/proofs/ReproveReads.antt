-- Which cells `reprove` reads, and for which it keeps values aside, from what its parts do.
use Rattle.std.proofs.Common.{ℕ, List, inl, inr, ⊎_elim}
use Rattle.mmsyntax.specs.declared.statement.Step.{Step}
use Rattle.library.specs.declared.command.Command.TheVariants.{Reprove}
use Rattle.bodystore.specs.declared.stored.StoredStep.{StoredStep}
use Rattle.cells.specs.Shows.{AreStoredAs}
use Rattle.cells.specs.Sight.{Sight, ReadsWithin, after}
use Rattle.cells.specs.Lookups.{ForEach, IsFoundAt}
use Rattle.cells.specs.Answers.{ForEachBefore}
use Rattle.cells.proofs.Asking.{asks_wider}
use Rattle.groundwork.specs.Touches.{Touches, KeepsTo, ReprovesWithin}
use Rattle.groundwork.specs.Footprints.{ReprovesReading}

-- what was found gets steps that are stored as these
pub reprove_reads : {O : Type 0} → (s new : Sight O) (i : ℕ) (label : List ℕ) (steps : List Step) (kept : List StoredStep)
    → ForEach s (λ st lib. IsFoundAt s.setting.slots st lib label i) → ForEach s (λ st lib. AreStoredAs s.setting.slots st steps kept)
    → ReprovesReading s new i label kept
    → ForEachBefore s new (λ st lib. ReadsWithin (Touches s.setting.slots (after s st) lib (Reprove label steps)) s new)
reprove_reads s new i label steps kept here stored within st lib m v =
    let at = here st lib v in asks_wider (λ c is. (i, at, is)) (within st lib m v at steps (stored st lib v))

-- and what is kept aside then
pub reprove_keeps : {O : Type 0} → (s new : Sight O) (i : ℕ) (label : List ℕ) (steps : List Step) (kept : List StoredStep)
    → ForEach s (λ st lib. IsFoundAt s.setting.slots st lib label i) → ForEach s (λ st lib. AreStoredAs s.setting.slots st steps kept)
    → ReprovesWithin s new i label kept → KeepsTo s new (Reprove label steps)
reprove_keeps s new i label steps kept here stored within st lib m v c was =
    let at = here st lib v in
    ⊎_elim (λ before. inl before) (λ is. inr (i, at, is)) (within st lib m v at steps (stored st lib v) c was)
