-- What is done for an order to verify.
use Rattle.std.specs.Prelude.{◌⊎◌, ℕ, Bool, List, string_bytes}
use Rattle.conduct.specs.declared.manner.Manner.TheVariants.{Full}
use Rattle.conduct.specs.Reading.{IsReadThen}
use Rattle.conduct.specs.Telling.{IsPrinted, IsSaid, IsUnkeyed}
use Rattle.outside.specs.Events.{Bytes, Event}
use Rattle.verifytext.specs.declared.answering.Verdict.{Verdict}
use Rattle.verifytext.specs.declared.answering.Verdict.TheVariants as verdict
use Rattle.verifytext.specs.Answers.{IsVerifyAnswer}

-- how much of a source was checked is printed, or the line of the refusal is said
abbrev pub IsVerifyTold : Verdict → List Event → ℕ → Type 0
IsVerifyTold (verdict.Verified line) es status = IsPrinted Full (string_bytes line) es status
IsVerifyTold (verdict.Refused line) es status = IsSaid (string_bytes line) es status

-- what is answered for a source is told; or the system gives no random numbers, which is said
abbrev pub IsAnsweredVerify : Bool → Bytes → Bytes → List Event → ℕ → Type 0
IsAnsweredVerify keyed path source es status =
    ((told : Verdict) × IsVerifyAnswer path source told × IsVerifyTold told es status) ⊎ IsUnkeyed keyed es status

-- the source is read, and then its proofs are checked
abbrev pub IsVerifyDone : Bool → Bytes → List Event → ℕ → Type 0
IsVerifyDone keyed path es status = IsReadThen Full path (IsAnsweredVerify keyed path) es status
