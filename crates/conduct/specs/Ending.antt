-- How what was asked for ends: with a status, or where memory ran out.
use Rattle.std.specs.Prelude.{ℕ, List, Result, Ok, Err, All}
use Rattle.outside.specs.Events.{Event, IsQuiet}

-- this was done, with its status; or nothing was written, printed or said where memory ran out
abbrev pub EndsBy : {E : Type 0} → (List Event → ℕ → Type 0) → List Event → Result ℕ E → Type 0
EndsBy P es (Ok status) = P es status
EndsBy P es (Err e) = All IsQuiet es
