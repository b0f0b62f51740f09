-- Why a text is not read or written, by the system's error.
use Rattle.std.specs.Prelude.{◌≡◌, ◌≢◌}
use Rattle.std.specs.declared.io.ErrorKind.{ErrorKind}
use Rattle.std.specs.declared.io.ErrorKind.TheVariants.{OutOfMemory}
use Rattle.outside.specs.declared.trouble.Trouble.{Trouble}
use Rattle.outside.specs.declared.trouble.Trouble.TheVariants as trouble
use Rattle.outside.specs.Reasons.{reason_by}

-- memory ran out just where the error is of that kind; any other has its reason
abbrev pub IsTroubleOf : ErrorKind → Trouble → Type 0
IsTroubleOf kind trouble.NoMemory = kind ≡ OutOfMemory
IsTroubleOf kind (trouble.Refused why) = (kind ≢ OutOfMemory) × (why ≡ reason_by kind)

-- the system answers by an error of some kind, of which this is the trouble
abbrev pub IsAnsweredBy : (ErrorKind → Type 0) → Trouble → Type 0
IsAnsweredBy answers why = (kind : ErrorKind) × answers kind × IsTroubleOf kind why
