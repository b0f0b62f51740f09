-- Why the source with edits isn't printed, and the line that says so.
use Rattle.std.specs.Prelude.{◌≡◌, ◌≢◌, ◌⊎◌, List, ◌++◌, codes}
use Rattle.source.specs.Scopes.{Scope}
use Rattle.intake.specs.declared.taken.Taken.{Taken}
use Rattle.checking.specs.Checks.{Bytes}
use Rattle.taking.specs.Reasons.{Choice}
use Rattle.library.specs.declared.history.Entry.{Entry}
use Rattle.library.specs.Library.{Listed}
use Rattle.givetext.specs.Parts.{IsEdited, IsStopped}
use Rattle.givetext.specs.Refusals.{refusal_text}
use Rattle.givetext.specs.declared.refusal.Refusal.{Refusal as Ungiven}
use Rattle.givetext.specs.declared.refusal.Refusal.TheVariants as ungiven
use Rattle.verifytext.specs.declared.refusal.Refusal.{Refusal as Unverified}
use Rattle.verifytext.specs.declared.refusal.Refusal.TheVariants as unverified
use Rattle.verifytext.specs.Verdicts.{IsRefused}
use Rattle.verifytext.specs.Lines.{refusal_line as verifying_line}
use Rattle.giving.specs.Staying.{Change}
use Rattle.pasting.specs.Quotes.{Quotation}
use Rattle.dressing.specs.Dressed.{IsDressed}

-- edits of a history aren't given back into a source
pub record IsStoppedLine (path source : Bytes) (old : Scope) (choice : Choice) (taken : Taken) (entries : List Entry) (edited : Listed)
    (line : Bytes)
    : Type 0 where
  pub why : Ungiven
  pub stopped : IsStopped source old choice taken entries edited why
  pub told : why ≢ ungiven.NoMemory
  pub says : line ≡ path ++ (codes ": " ++ refusal_text why)

-- a text with edits isn't said to verify
pub record IsFaultyThenLine (path out line : Bytes) : Type 0 where
  pub why : Unverified
  pub refused : IsRefused out why
  pub told : why ≢ unverified.NoMemory
  pub says : line ≡ verifying_line (path ++ codes ": the source with these edits") out why

-- of the code's inside: edits of a history aren't given back, or the source with them, dressed in what scripts give, isn't said to verify
abbrev pub IsStoppedOrFaulty : Bytes → Bytes → Scope → Choice → Taken → List Entry → Listed → List Quotation → List Change → Bytes
    → Type 0
IsStoppedOrFaulty path source old choice taken entries edited qs ds line =
    IsStoppedLine path source old choice taken entries edited line
    ⊎ ((edits : Bytes) × (out : Bytes) × (is : IsEdited source old choice taken entries edited edits)
    × IsDressed qs ds is.followed edits out × IsFaultyThenLine path out line)
