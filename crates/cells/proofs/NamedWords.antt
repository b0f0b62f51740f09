-- The words of a proof that is read back, over the labels of the slots that it cites.
use Rattle.std.proofs.Common.{◌≡◌, ℕ, ◌+◌, ◌*◌, ◌<◌, List, [], ◌∷◌, ◌++◌, length, get_or, take, sym, ap, subst, ◌∙◌}
use Rattle.std.proofs.Math.Seq.{get_or-append_seam}
use Rattle.std.proofs.lemmas.List.{map_push, get_or_default, length-map}
use Rattle.std.proofs.lemmas.List.Elements.{All-push}
use Rattle.mmsyntax.specs.declared.statement.Step.{Step}
use Rattle.mmsyntax.specs.declared.statement.Step.TheVariants.{Float, Hyp, Cite}
use Rattle.mmsyntax.specs.ProofWords.{step_of, steps_of, IsWord, AreWords}
use Rattle.mmsyntax.proofs.ProofSteps.{float_word, hyp_word, cite_word, kept_steps, kept_words, step_at}
use Rattle.bodystore.specs.declared.stored.StoredStep.{StoredStep}
use Rattle.bodystore.specs.declared.stored.StoredStep.TheVariants as stored
use Rattle.cells.specs.Shows.{IsNamed, IsStoredAs}
use Rattle.cells.specs.Sight.{Sight, after}
use Rattle.cells.specs.Lookups.{IsStepOf, AreStepsOf}

-- one more word, over more labels
pub more_words : (cited more : List (List ℕ)) (words : List ℕ) (w : ℕ) → take (length cited) more ≡ cited → AreWords cited words
    → IsWord (length more) w → AreWords more (words ++ w ∷ [])
more_words cited more words w kept all one = All-push (IsWord (length more)) words w (kept_words cited more words kept all) one

pub more_steps : (cited more : List (List ℕ)) (words : List ℕ) (w : ℕ) → take (length cited) more ≡ cited → AreWords cited words
    → steps_of more (words ++ w ∷ []) ≡ steps_of cited words ++ step_of more w ∷ []
more_steps cited more words w kept all =
    map_push (step_of more) words w ∙ ap (λ (ss : List Step). ss ++ step_of more w ∷ []) (kept_steps cited more words kept all)

-- the word of a step before
pub word_before : {O : Type 0} → (s : Sight O) (slots : ℕ) (kept : List StoredStep) (cited : List (List ℕ)) (words : List ℕ) (k : ℕ)
    (step : StoredStep) → AreStepsOf slots s kept (steps_of cited words) → k < length words → get_or kept k step ≡ step
    → IsStepOf slots s step (step_of cited (get_or words k 0))
word_before s slots kept cited words k step each lt same =
    let w = get_or words k 0 in
    let within : k < length (steps_of cited words) = subst (λ (n : ℕ). k < n) (sym (length-map words (step_of cited))) lt in
    subst (λ (y : StoredStep). IsStepOf slots s y (step_of cited w)) same
    (subst (λ (x : Step). IsStepOf slots s (get_or kept k step) x)
    (step_at cited words k w (step_of cited w) lt (get_or_default words k 0 w lt)) (each k step (step_of cited w) within))

-- ---- the word of a stored step

float_back : (named : ℕ → List ℕ → Type 0) (x : Step) (j : ℕ) → IsStoredAs named x (stored.Float j) → Float j ≡ x
float_back named (Float i) j is = ap (λ (n : ℕ). Float n) (sym is)
float_back named (Hyp k) j is = absurd is
float_back named (Cite w) j is = absurd is

hyp_back : (named : ℕ → List ℕ → Type 0) (x : Step) (j : ℕ) → IsStoredAs named x (stored.Hyp j) → Hyp j ≡ x
hyp_back named (Float i) j is = absurd is
hyp_back named (Hyp k) j is = ap (λ (n : ℕ). Hyp n) (sym is)
hyp_back named (Cite w) j is = absurd is

pub float_word_of : {O : Type 0} → (s : Sight O) (slots : ℕ) (cited : List (List ℕ)) (i : ℕ) (step : StoredStep) → step ≡ stored.Float i
    → IsStepOf slots s step (step_of cited (3 * i))
float_word_of s slots cited i step at st x m short is =
    let named = IsNamed slots (after s st) in
    float_word cited i ∙ float_back named x i (subst (λ (y : StoredStep). IsStoredAs named x y) at is)

pub hyp_word_of : {O : Type 0} → (s : Sight O) (slots : ℕ) (cited : List (List ℕ)) (k : ℕ) (step : StoredStep) → step ≡ stored.Hyp k
    → IsStepOf slots s step (step_of cited (3 * k + 1))
hyp_word_of s slots cited k step at st x m short is =
    let named = IsNamed slots (after s st) in
    hyp_word cited k ∙ hyp_back named x k (subst (λ (y : StoredStep). IsStoredAs named x y) at is)

-- its label was put behind the others
pub slot_word_of : {O : Type 0} → (s : Sight O) (slots : ℕ) (cited more : List (List ℕ)) (label : List ℕ) (n i : ℕ) (step : StoredStep)
    → step ≡ stored.Slot i → more ≡ cited ++ label ∷ [] → n ≡ length cited → IsStepOf slots s (stored.Slot i) (Cite label)
    → IsStepOf slots s step (step_of more (3 * n + 2))
slot_word_of s slots cited more label n i step at push here is =
    let word : step_of more (3 * n + 2) ≡ Cite label =
    cite_word more n ∙ ap (λ (l : List ℕ). Cite l)
    (ap (λ (ls : List (List ℕ)). get_or ls n []) push ∙ ap (λ (j : ℕ). get_or (cited ++ label ∷ []) j []) here
    ∙ get_or-append_seam cited label [] []) in
    subst (λ (y : StoredStep). IsStepOf slots s y (step_of more (3 * n + 2))) (sym at)
    (subst (IsStepOf slots s (stored.Slot i)) (sym word) is)
