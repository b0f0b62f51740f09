-- How many words of the store a command takes at most, over the libraries that may be shown.
use Rattle.std.proofs.Common.{◌≡◌, ℕ, List, length, ◌∙◌}
use Rattle.std.proofs.lemmas.List.{length-map}
use Rattle.std.proofs.lemmas.Slice.Zip.{AllZip-long}
use Rattle.mmsyntax.specs.declared.statement.Step.{Step}
use Rattle.bodystore.specs.declared.stored.StoredStep.{StoredStep}
use Rattle.bodystore.specs.Bodies.{step_word, proof_body}
use Rattle.cells.specs.State.{State}
use Rattle.cells.specs.Shows.{IsStoredAs, IsNamed, AreStoredAs}
use Rattle.cells.specs.Sight.{Sight, Onward, Looks, after}
use Rattle.cells.specs.Lookups.{ForEach}
use Rattle.cells.specs.Answers.{ForEachBefore}
use Rattle.cells.proofs.Sights.{matches_back}
use Rattle.groundwork.proofs.Seeing.{views_later}

-- each step is stored by one word
pub stored_length : (slots : ℕ) (st : State) (steps : List Step) (kept : List StoredStep) → AreStoredAs slots st steps kept
    → length (proof_body kept) ≡ length steps
stored_length slots st steps kept h = length-map kept step_word ∙ AllZip-long (IsStoredAs (IsNamed slots st)) steps kept h

-- the steps that were stored as the run has them are as many
pub stored_taken : {O : Type 0} → (s t u : Sight O) → Looks s t → Onward t u → (steps : List Step) (kept : List StoredStep)
    → ForEach t (λ st lib. AreStoredAs t.setting.slots st steps kept)
    → ForEachBefore s u (λ st lib. length (proof_body kept) ≡ length steps)
stored_taken s t u looks on steps kept stored st lib m v =
    stored_length t.setting.slots (after t st) steps kept (stored st lib (views_later s t st lib looks (matches_back t u st on m) v))
