-- What the program answers where all proofs of a source are checked.
use Rattle.std.specs.Prelude.{◌≡◌, ℕ, List, string_bytes}
use Rattle.verifytext.specs.declared.answering.Verdict.{Verdict}
use Rattle.verifytext.specs.declared.answering.Verdict.TheVariants as verdict
use Rattle.verifytext.specs.declared.refusal.Refusal.{Refusal}
use Rattle.verifytext.specs.declared.verifying_text.Verified.{Verified}
use Rattle.verifytext.specs.Verdicts.{IsVerifiedText, IsRefused}
use Rattle.verifytext.specs.Lines.{ok_line, refusal_line}

-- the source at a path verifies, and how much of it is told; or the line says why it isn't said to
abbrev pub IsVerifyAnswer : List ℕ → List ℕ → Verdict → Type 0
IsVerifyAnswer path source (verdict.Verified line) =
    (v : Verified) × IsVerifiedText source v × (string_bytes line ≡ ok_line v.assertions v.unfinished)
IsVerifyAnswer path source (verdict.Refused line) =
    (why : Refusal) × IsRefused source why × (string_bytes line ≡ refusal_line path source why)
