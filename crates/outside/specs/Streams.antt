-- What is put on a stream.
use Rattle.std.specs.Prelude.{◌≡◌, ℕ, Option, Some, None, take}
use Rattle.std.specs.Io.KnownBytes.{Appends}
use Rattle.std.specs.declared.io.ErrorKind.{ErrorKind}
use Rattle.outside.specs.Events.{Bytes}
use Rattle.outside.specs.Deeds.{Failure}

-- a text stands there, behind what stood there; or a front of it, and a write failed, for an error of this kind
abbrev pub IsAppended : (ErrorKind → Type 0) → Option Bytes → Option Bytes → Bytes → Failure → Type 0
IsAppended failed old new text None = Appends old new text
IsAppended failed old new text (Some kind) = failed kind × (many : ℕ) × Appends old new (take many text)

-- what failed has failed
abbrev pub Lasts : (ErrorKind → Type 0) → (ErrorKind → Type 0) → Type 0
Lasts then now = (kind : ErrorKind) → then kind → now kind

-- another stream stays as it is
pub record Stays (failed_then failed_now : ErrorKind → Type 0) (old new : Option Bytes) : Type 0 where
  pub same : new ≡ old
  pub lasts : Lasts failed_then failed_now
