-- What the program answers where edits are to be given back.
use Rattle.std.specs.Prelude.{◌≡◌, ◌≢◌, ℕ, List, [], ◌∷◌, string_bytes}
use Rattle.givetext.specs.Given.{IsGiven}
use Rattle.givetext.specs.Causes.{IsRefused}
use Rattle.givetext.specs.Refusals.{refusal_line}
use Rattle.givetext.specs.declared.answering.Returned.{Returned}
use Rattle.givetext.specs.declared.answering.Returned.TheVariants.{Printed, Refused}
use Rattle.givetext.specs.declared.refusal.Refusal.{Refusal}
use Rattle.givetext.specs.declared.refusal.Refusal.TheVariants.{NoMemory}

-- why nothing is printed, and the line that says so
pub record IsRefusedBy (paths : List (List ℕ)) (source library history line : List ℕ) : Type 0 where
  pub why : Refusal
  pub told : why ≢ NoMemory
  pub refused : IsRefused source library history why
  pub says : line ≡ refusal_line paths (source ∷ library ∷ history ∷ []) why

-- the source with the edits is printed; or a line says why not
abbrev pub IsGiveAnswer : List (List ℕ) → List ℕ → List ℕ → List ℕ → Returned → Type 0
IsGiveAnswer paths source library history (Printed out) = IsGiven source library history out.items
IsGiveAnswer paths source library history (Refused line) = IsRefusedBy paths source library history (string_bytes line)
