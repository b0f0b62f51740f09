-- What is done for an order to give back.
use Rattle.std.specs.Prelude.{◌⊎◌, ℕ, Bool, List, [], ◌∷◌, string_bytes}
use Rattle.conduct.specs.declared.manner.Manner.TheVariants.{Full}
use Rattle.conduct.specs.Reading.{AreReadThen, IsInputOnceThen}
use Rattle.conduct.specs.Telling.{IsPrinted, IsSaid, IsUnkeyed}
use Rattle.givetext.specs.Answers.{IsGiveAnswer}
use Rattle.givetext.specs.declared.answering.Returned.{Returned}
use Rattle.givetext.specs.declared.answering.Returned.TheVariants as returned
use Rattle.outside.specs.Events.{Bytes, Event}

-- the source with the edits is printed, or the line of the refusal is said
abbrev pub IsGiveTold : Returned → List Event → ℕ → Type 0
IsGiveTold (returned.Printed out) es status = IsPrinted Full out.items es status
IsGiveTold (returned.Refused line) es status = IsSaid (string_bytes line) es status

-- what is answered for a source, a library and a history in files is told; or the system gives no random numbers, which is said
abbrev pub IsAnsweredGive : Bool → List Bytes → List Bytes → List Event → ℕ → Type 0
IsAnsweredGive keyed paths (source ∷ library ∷ history ∷ []) es status =
    ((told : Returned) × IsGiveAnswer paths source library history told × IsGiveTold told es status) ⊎ IsUnkeyed keyed es status
IsAnsweredGive keyed paths _ es status = ⊥

-- the standard input is asked for once at most, the files are read, and then the edits are given back
abbrev pub IsGiveDone : Bool → Bytes → Bytes → Bytes → List Event → ℕ → Type 0
IsGiveDone keyed source library history es status =
    let paths = source ∷ library ∷ history ∷ [] in
    IsInputOnceThen paths (AreReadThen Full paths (IsAnsweredGive keyed paths)) es status
