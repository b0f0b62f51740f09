-- When an editor is opened on a database, and on which library.
use Rattle.std.specs.Prelude.{◌≡◌, ◌<◌, ◌≤◌, ℕ, length, Result, Ok, Err}
use Rattle.mmsyntax.specs.Tables.{Contents}
use Rattle.library.specs.Library.{setting_over, opening}
use Rattle.history.specs.declared.editor.OpenError.{OpenError}
use Rattle.history.specs.declared.editor.OpenError.TheVariants.{TooMany, NoMemory}
use Rattle.history.specs.Editors.{Held}

-- where there are as many slots as assertions, at least, on the opening library of the database
abbrev pub EditorOpens : Contents → ℕ → Result Held OpenError → Type 0
EditorOpens db slots (Ok e) = (length db.assertions ≤ slots)
    × (e ≡ record { setting = setting_over db slots; library = opening db })
EditorOpens db slots (Err TooMany) = slots < length db.assertions
EditorOpens db slots (Err NoMemory) = Unit {0}
