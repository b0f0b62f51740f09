-- Which steps the words of a proof stand for, beside the labels that it cites. A compressed proof of Metamath lists the labels that it
-- cites once, too, and names them by numbers (Metamath book, appendix B); the layout of the words is this project's own.
use Rattle.std.specs.Prelude.{◌≡◌, ℕ, ◌/◌, ◌%◌, ◌<◌, ◌^◌, ◌==◌, List, [], map, length, slice_index_or, if◌then◌else◌}
use Rattle.std.specs.Prelude.{All}
use Rattle.std.specs.List.{Contains}
use Rattle.std.specs.Str.{bytes_eq}
use Rattle.mmsyntax.specs.declared.statement.Step.{Step}
use Rattle.mmsyntax.specs.declared.statement.Step.TheVariants.{Float, Hyp, Cite}
use Rattle.mmsyntax.specs.declared.step_ref.StepRef.{StepRef}
use Rattle.mmsyntax.specs.declared.step_ref.StepRef.TheVariants as lent
use Rattle.mmsyntax.specs.declared.word_steps.WordStep.{WordStep}
use Rattle.mmsyntax.specs.declared.word_steps.WordStep.TheVariants as placed

-- the step of a word: 3 i is the $f at the place i, 3 k + 1 the hypothesis at the place k, 3 n + 2 cites the label at the place n
unfoldable pub step_of : List (List ℕ) → ℕ → Step
step_of cited w =
    if w % 3 == 0 then Float (w / 3) else (if w % 3 == 1 then Hyp (w / 3) else Cite (slice_index_or cited (w / 3) []))

-- the steps of a proof
abbrev pub steps_of : List (List ℕ) → List ℕ → List Step
steps_of cited words = map (step_of cited) words

-- a word that names a small place, and one of a list of labels if it cites
pub record IsWord (count w : ℕ) : Type 0 where
  pub small : w / 3 < 2 ^ 30
  pub within : w % 3 ≡ 2 → w / 3 < count

abbrev pub AreWords : List (List ℕ) → List ℕ → Type 0
AreWords cited words = All (IsWord (length cited)) words

-- a step that a word can stand for
abbrev pub IsSmall : Step → Type 0
IsSmall (Float i) = i < 2 ^ 30
IsSmall (Hyp k) = k < 2 ^ 30
IsSmall (Cite w) = Unit {0}

-- a step that cites one of these labels, if any
abbrev pub IsCitedIn : List (List ℕ) → Step → Type 0
IsCitedIn labels (Float i) = Unit {0}
IsCitedIn labels (Hyp k) = Unit {0}
IsCitedIn labels (Cite w) = Contains labels w

-- a step that is lent
abbrev pub seen_step : StepRef → Step
seen_step (lent.Float i) = Float i
seen_step (lent.Hyp k) = Hyp k
seen_step (lent.Cite label) = Cite label.now

-- a step with another label
abbrev pub step_relabelled : (List ℕ → List ℕ) → Step → Step
step_relabelled change (Float i) = Float i
step_relabelled change (Hyp k) = Hyp k
step_relabelled change (Cite label) = Cite (change label)

-- the one label becomes the other
abbrev pub replacing : List ℕ → List ℕ → List ℕ → List ℕ
replacing old new label = if bytes_eq old label then new else label

-- a step whose label is a place among labels
abbrev pub step_in : List (List ℕ) → WordStep → Step
step_in cited (placed.Float i) = Float i
step_in cited (placed.Hyp k) = Hyp k
step_in cited (placed.Cite n) = Cite (slice_index_or cited n [])

-- the place of a label is one of so many
abbrev pub IsWithin : ℕ → WordStep → Type 0
IsWithin count (placed.Float i) = Unit {0}
IsWithin count (placed.Hyp k) = Unit {0}
IsWithin count (placed.Cite n) = n < count
