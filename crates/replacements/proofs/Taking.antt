-- How many words of the store `replace` takes at most, over the libraries that may be shown.
use Rattle.std.proofs.Common.{◌≡◌, ℕ, List, length, map, Some, sym, ap, ◌∙◌}
use Rattle.std.proofs.lemmas.List.{length-map}
use Rattle.library.specs.Edits.{found}
use Rattle.library.proofs.Places.{found_in}
use Rattle.bodystore.specs.declared.stored.StoredStep.{StoredStep}
use Rattle.bodystore.specs.Bodies.{step_word, proof_body}
use Rattle.cells.specs.Sight.{Sight, Onward, Looks, after}
use Rattle.cells.specs.Lookups.{Finds, AreStepsAt}
use Rattle.cells.specs.Answers.{ForEachBefore}
use Rattle.cells.proofs.Sights.{matches_back}
use Rattle.groundwork.specs.Takes.{steps_in, proof_length}
use Rattle.groundwork.proofs.Seeing.{views_later}
use Rattle.groundwork.proofs.Taking.{stored_length}

-- the steps that were read are as many as the proof has that they were read from
pub found_taken : {O : Type 0} → (s t u : Sight O) (label : List ℕ) (i : ℕ) (kept : List StoredStep) → Looks s t → Onward t u
    → Finds t label (Some i) → AreStepsAt t i kept → ForEachBefore s u (λ st lib. length (proof_body kept) ≡ proof_length lib label)
found_taken s t u label i kept looks on finds steps st lib m v =
    let now = views_later s t st lib looks (matches_back t u st on m) v in
    let at = finds.1 st lib now in
    let held = steps st lib now at.entry (found_in lib label at.entry at.found).0 at.holds in
    stored_length t.setting.slots (after t st) at.entry.assertion.proof kept held ∙ sym (ap steps_in at.found)

-- another citation in each step is no other number of words
pub recited_length : (f : StoredStep → StoredStep) (kept : List StoredStep) → length (proof_body (map f kept)) ≡ length (proof_body kept)
recited_length f kept = length-map (map f kept) step_word ∙ (length-map kept f ∙ sym (length-map kept step_word))
