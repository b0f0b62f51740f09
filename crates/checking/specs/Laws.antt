-- What is true of every script that is spelled, and of every text that is accepted.
use Rattle.std.specs.Prelude.{◌≤◌, All, length}
use Rattle.mmsyntax.specs.Tables.{Tables}
use Rattle.mmsyntax.specs.Layout.{IsSoundPrelude}
use Rattle.library.specs.Fitting.{CommandFits}
use Rattle.scripts.specs.Scripts.{SpellsScript}
use Rattle.export.specs.Exported.{Accepts}
use Rattle.checking.specs.Checks.{Bytes, Orders, IsChecked}
use Rattle.mmsyntax.specs.declared.limits.TheConstants.{MOST_BYTES}

-- over a prelude that some text declares, each command of a script that is spelled is within the limits
abbrev pub SpelledScriptsFit : Type 0
SpelledScriptsFit =
    (t : Tables) (bytes : Bytes) (script : Orders) → IsSoundPrelude t → SpellsScript t bytes script → All (All (CommandFits t)) script

-- an accepted text of at most 16,777,216 bytes is read, as the database that it spells, and each of its proofs checks: so is each export
abbrev pub AcceptedTextsCheck : Type 0
AcceptedTextsCheck = (text : Bytes) (a : Accepts text) → length text ≤ MOST_BYTES → IsChecked text a.database
