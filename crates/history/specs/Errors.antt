-- The number and the name of each error: of an opening, of a transaction, of a replay.
use Rattle.std.specs.Prelude.{ℕ, List, codes}
use Rattle.history.specs.declared.editor.OpenError.{OpenError}
use Rattle.history.specs.declared.editor.OpenError.TheVariants as opening_error
use Rattle.history.specs.declared.editor.ApplyError.{ApplyError}
use Rattle.history.specs.declared.editor.ApplyError.TheVariants as apply
use Rattle.history.specs.declared.replaying.ReplayError.{ReplayError}
use Rattle.history.specs.declared.replaying.ReplayError.TheVariants as replay

-- ---- openings

abbrev pub open_number : OpenError → ℕ
open_number opening_error.TooMany = 1
open_number opening_error.NoMemory = 2

abbrev pub open_name : OpenError → List ℕ
open_name opening_error.TooMany = codes "TooMany"
open_name opening_error.NoMemory = codes "NoMemory"

-- ---- transactions

abbrev pub apply_number : ApplyError → ℕ
apply_number (apply.Refused refused) = 1
apply_number apply.NoMemory = 2

abbrev pub apply_name : ApplyError → List ℕ
apply_name (apply.Refused refused) = codes "Refused"
apply_name apply.NoMemory = codes "NoMemory"

-- ---- replays

abbrev pub replay_number : ReplayError → ℕ
replay_number (replay.Differs n) = 1
replay_number replay.TooMany = 2
replay_number replay.NoMemory = 3

abbrev pub replay_name : ReplayError → List ℕ
replay_name (replay.Differs n) = codes "Differs"
replay_name replay.TooMany = codes "TooMany"
replay_name replay.NoMemory = codes "NoMemory"
